-- What is proved of a run of desk and wall.
pub mod WallLives
pub mod WallInputs
pub mod DeskCalls
pub mod RunOrder
pub mod RunBoth
