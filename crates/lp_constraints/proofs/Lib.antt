pub mod Concluding
pub mod Deciding
