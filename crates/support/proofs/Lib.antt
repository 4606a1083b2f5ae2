-- ---- laws by which the functions are proved
pub mod Coordinates
pub mod Curves
pub mod Offsets
pub mod Answers
pub mod Resolving
pub mod RootsFound
pub mod PieceCases
