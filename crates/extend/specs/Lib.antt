-- What the contracts of `extend` cite.
pub mod Extend
pub mod ExtendAnswer
pub mod ExtendContracts
pub mod Answers
pub mod ImageExtend
pub mod ImageExtendContracts
