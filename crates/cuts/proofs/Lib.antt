-- The laws that the proofs of `cuts` share.
pub mod Ends
pub mod Rows
pub mod Steps
pub mod Among
pub mod Sorting
pub mod Passes
pub mod Sides
pub mod Cutters
