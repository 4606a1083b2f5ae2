-- ---- laws by which the functions are proved
pub mod Lists
pub mod Lowering
pub mod Bisecting
pub mod CoefficientWalks
pub mod OrderWalks
pub mod KnotWalks
pub mod Counts
pub mod Levels
-- ---- what the definitions achieve
pub mod SortedLists
pub mod KeptApart
pub mod StepsSpent
pub mod RefusedBy
pub mod Answers
