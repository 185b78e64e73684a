-- The desk that gives several tenants parts of one arena.
pub mod Leases
pub mod Desk
pub mod Kept
pub mod Answers
pub mod Joining
pub mod Shifts
