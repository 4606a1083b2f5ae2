pub mod ByteLaws
pub mod Drawings
pub mod Examples
