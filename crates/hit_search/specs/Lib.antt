-- What the contracts of `hit_search` cite.
pub mod NearestHit
pub mod Values
pub mod Clauses
pub mod ImageSearch
pub mod ImageContracts
