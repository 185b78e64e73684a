-- Locals of a frame by its place: which are ready, and whether one is lent.
pub mod Places
pub mod Lending
pub mod Tables
pub mod Marking
pub mod MarkingLaws
pub mod LendingLaws
