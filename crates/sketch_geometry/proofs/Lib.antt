-- The laws of positions and shapes that other crates cite.
pub mod Found
pub mod Shapes
pub mod RowPositions
