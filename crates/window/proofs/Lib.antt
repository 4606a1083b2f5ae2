-- The window's functions meet their contracts, by laws of sliding (`Slides`), of slots that hold a message (`IsHeld`) and of what is due
-- (`CatchingUp`); and a catch-up writes the messages of a desk (`KeptMessages`).
pub mod Slides
pub mod IsHeld
pub mod CatchingUp
pub mod KeptMessages
