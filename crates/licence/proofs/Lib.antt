pub mod Vectors
pub mod Bounds
