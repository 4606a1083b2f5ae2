-- What the contracts of `planning` cite.
pub mod Planning
pub mod ImagePlans
pub mod ImageContracts
