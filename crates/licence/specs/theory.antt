-- Laws, for the proofs of this crate and of those above it.
-- How the laws of licences are proved.
pub mod Asking
pub mod Paying
pub mod Totals
pub mod Carrying
pub mod Steps
pub mod Sound
pub mod Walks
pub mod Failing
