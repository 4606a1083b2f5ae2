-- What the contracts of `cuts` cite.
pub mod Lists
pub mod Bounded
pub mod Cuts
pub mod Bracket
pub mod ImageCuts
-- ---- for functions that nothing outside calls
pub mod Crossings
pub mod Nearest
pub mod ImageContracts
