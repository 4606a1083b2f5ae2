-- What a run of desk and wall comes to.
pub mod RunBoth
pub mod Clauses
