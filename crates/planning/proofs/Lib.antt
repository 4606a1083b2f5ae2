-- What is proved of the plans of a trim and of a split.
pub mod Others
pub mod Suits
pub mod TrimSplitPlans
pub mod CurvePlans
pub mod ImageCurves
