-- What is proved of the search for the nearest hit.
pub mod OtherCurves
pub mod NearestHit
pub mod CurveHits
pub mod ShapeSearch
pub mod ImageSearch
