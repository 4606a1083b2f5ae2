-- What the contracts of `bernstein` cite.
pub mod Evaluate
pub mod Bisect
pub mod Answers
pub mod Roots
pub mod Clauses
pub mod Sorted
