pub mod Calls
pub mod Polynomials
pub mod Hosts
pub mod Clauses
