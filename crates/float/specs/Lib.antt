-- What the contracts of `float` cite.
pub mod Root
pub mod Numbers
pub mod Sign
pub mod Order
pub mod Magnitude
pub mod Thresholds
pub mod Rooted
