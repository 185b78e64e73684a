-- Annotations of constructors, and potential.
pub mod Vectors
pub mod Tables
pub mod Steps
pub mod PotentialLaws
