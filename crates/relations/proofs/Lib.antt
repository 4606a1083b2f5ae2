-- The laws that the proofs of `relations` share.
pub mod CurveMeasures
pub mod Failing
pub mod Cases
pub mod RowData
pub mod Named
pub mod RowSearch
pub mod Unmoved
