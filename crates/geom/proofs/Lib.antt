-- Laws of the plane that other crates cite.
pub mod Distances
pub mod Directions
