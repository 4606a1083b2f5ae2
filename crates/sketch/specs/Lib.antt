pub mod Lists
pub mod Lookup
pub mod Sorts
pub mod Drawing
pub mod Valid
pub mod Columns
pub mod Blanks
pub mod Facts
