-- What is proved of the definitions of edits.
pub mod Planned
pub mod WholeOutcomes
pub mod Answers
pub mod Extended
pub mod ImageFaults
pub mod ImageEdits
pub mod Numbered
pub mod Places
pub mod InPlace
