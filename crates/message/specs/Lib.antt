pub mod Message
pub mod Stored
