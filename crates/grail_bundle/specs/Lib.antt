pub mod Bundles
pub mod Faults
pub mod Answers
pub mod Lines
