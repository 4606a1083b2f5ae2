-- What is proved of desk and wall.
pub mod Decoding
pub mod Folded
pub mod Picks
pub mod CallOutcomes
pub mod OutcomePlaces
pub mod DeskEdit
pub mod WallDeliver
pub mod WallCases
pub mod Steps
pub mod Demand3
pub mod CatchUps
pub mod StartCases
pub mod TwoDesks
