-- Desk and wall agree with the reference machine (`Agree`), also by a catch-up (`CatchUp`), chains and rings outlive every edit (`Chains`, `Rings`, `FamiliesJoined`), and so the whole claim
-- holds (`Demand`).
pub mod Orders
pub mod Counts
pub mod Families
pub mod Reference
pub mod Runs
pub mod Wall
pub mod Sessions
pub mod Agree
pub mod CatchUp
pub mod Chains
pub mod Rings
pub mod FamiliesJoined
pub mod Demand
