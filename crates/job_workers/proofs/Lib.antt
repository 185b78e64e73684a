pub mod Turns
pub mod Planned
pub mod Finishing
