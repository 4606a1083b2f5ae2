-- What is proved of the calls on lent memory.
pub mod RootsAnswer
pub mod Calls
pub mod Hosts
