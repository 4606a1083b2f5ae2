-- A plan applied has the effect that chains and rings need (`Shapes`) and leaves a valid drawing (`Keeps`); so the whole claim holds of edits that do so
-- (`Edits`). Two worked examples (`Model`, `CutCircle`), and faults of the second (`NoRing`).
pub mod AddedPieces
pub mod Close
pub mod Same
pub mod Rows
pub mod Shapes
pub mod Grown
pub mod Steps
pub mod Released
pub mod Gone
pub mod Kept
pub mod Pins
pub mod Ties
pub mod Sorts
pub mod Splits
pub mod Keeps
pub mod Refusals
pub mod Edits
pub mod Model
pub mod CutCircle
pub mod NoRing
