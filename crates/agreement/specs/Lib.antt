-- The claim over two whole lists of calls, the desk's and the wall's, and what it is stated by.
pub mod Machines
pub mod Agreement
pub mod Families
pub mod Demand
pub mod EditEffect
