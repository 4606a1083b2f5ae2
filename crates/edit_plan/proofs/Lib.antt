-- The laws of applying that other crates cite.
pub mod Every
pub mod Tables
pub mod Arms
pub mod Leaves
pub mod Rooms
pub mod Loops
pub mod Unused
pub mod Amounts
pub mod Fresh
pub mod Gone
pub mod Bridge
pub mod Finals
pub mod AtOnce
pub mod Applied
pub mod Rounds
pub mod Plans
