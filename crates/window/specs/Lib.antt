-- The desk's window, and what a wall is sent from it.
pub mod Window
pub mod KeptMessages
