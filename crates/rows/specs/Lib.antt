pub mod Rows
pub mod Clauses
