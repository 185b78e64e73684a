pub mod Shaping
pub mod Taking
pub mod Verdicts
