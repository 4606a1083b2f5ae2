pub mod MessageRoundTrips
pub mod OperationNumbers
