pub mod Records
pub mod Image
pub mod Stored
pub mod Encode
pub mod Decode
pub mod Clauses
