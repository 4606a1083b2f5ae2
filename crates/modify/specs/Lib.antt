-- What the contracts of `modify` cite.
pub mod Edits
pub mod Answers
pub mod ImageEdits
pub mod ImageContracts
