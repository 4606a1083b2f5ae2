-- ---- what other crates cite
-- correct rounding of the root, and that it does not fall
pub mod Nearest
pub mod Plain
-- a length held against a bound, by its square
pub mod Lengths
-- signs, the total order, the larger of two
pub mod Signs
pub mod Ordered
pub mod TotalOrder
pub mod Larger
pub mod LargestMagnitude
pub mod Literals
-- ---- what these, and the proofs of the functions, rest on
pub mod WholeRoots
pub mod ByDigits
pub mod Halves
pub mod Patterns
pub mod Exponents
pub mod Special
pub mod Around
pub mod Units
pub mod Monotone
pub mod Unsigned
pub mod PatternOrder
pub mod Thresholds
-- ---- roots that are worked out
pub mod Samples
