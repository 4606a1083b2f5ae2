-- What the contracts of `shape` cite.
pub mod Turn
pub mod Measures
pub mod Intersections
