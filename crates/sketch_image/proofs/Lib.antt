pub mod Answers
pub mod Typed
pub mod Written
pub mod ReadBack
