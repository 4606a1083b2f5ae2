-- What is proved of the wall's program.
pub mod Program
pub mod ProgramWrites
