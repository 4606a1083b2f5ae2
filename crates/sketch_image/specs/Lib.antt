pub mod SketchImage
pub mod RoundTrip
