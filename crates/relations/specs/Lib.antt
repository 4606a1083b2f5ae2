-- What the contracts of `relations` cite.
pub mod Met
pub mod Whole
pub mod Moves
pub mod ImageContracts
