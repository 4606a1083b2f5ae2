-- What the wall's program writes.
pub mod Program
