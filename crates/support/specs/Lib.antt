-- What the contracts of `support` cite.
pub mod Freeform
pub mod Hits
pub mod Pieces
pub mod Clauses
