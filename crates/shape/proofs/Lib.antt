-- ---- what other crates cite
pub mod CrossingsBy
pub mod Offsets
pub mod Opened
-- ---- what the proofs of the functions rest on
pub mod Headings
-- ---- values that are worked out
pub mod Samples
