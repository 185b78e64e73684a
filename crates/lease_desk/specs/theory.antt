-- Laws, for the laws of journals and for the proofs of this crate.
-- What leases change in sums over those that are out, what events are moves, what holds behind each journal, and what
-- cells holes have.
pub mod Leases
pub mod Moves
pub mod Sound
pub mod Filing
pub mod Within
pub mod Outs
