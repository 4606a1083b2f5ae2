-- What the contracts of `edit_plan` cite.
pub mod Outcome
pub mod Tables
pub mod Steps
pub mod ApplyPlan
pub mod Counts
pub mod Edited
pub mod Suited
pub mod Changes
pub mod Room
