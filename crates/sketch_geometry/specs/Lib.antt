-- What the contracts of `sketch_geometry` cite.
pub mod Geometry
pub mod Positions
