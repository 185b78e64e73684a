pub mod Taking
pub mod Limits
pub mod Moving
