pub mod Answers
pub mod Applied
pub mod Moved
pub mod Clauses
