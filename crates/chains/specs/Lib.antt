-- What the theorems on applying cite, and the worked example of rings.
pub mod CurveView
pub mod CutCircle
