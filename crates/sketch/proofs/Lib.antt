-- The laws that the proofs of `sketch` share.
pub mod Bools
pub mod Lists
pub mod Ascent
pub mod Bisection
pub mod Walks
pub mod CurveCases
pub mod RelationCases
pub mod Facts
pub mod Sorts
pub mod Sketches
pub mod Checked
