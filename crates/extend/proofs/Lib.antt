-- What is proved of an extend.
pub mod Moves
pub mod Uses
pub mod Places
pub mod Refusing
pub mod ExtendPlans
pub mod ImageExtend
pub mod OutcomesWritten
pub mod ImageMoves
