-- The check of code as a walk, and what its faults of use mean.
pub mod Finding
pub mod Marked
pub mod Misuse
pub mod Faulting
pub mod Sets
pub mod Walk
