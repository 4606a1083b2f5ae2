-- Desk, wall and reference machine on real drawings, and the claim over both whole lists.
pub mod Protocol
pub mod Outcomes
pub mod DeskReply
pub mod WallReply
pub mod Transitions
pub mod Clauses
pub mod Replication
pub mod TwoDesks
pub mod CatchUps
