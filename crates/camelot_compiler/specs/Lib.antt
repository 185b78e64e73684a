-- Compiling from bytes to a bundle.
pub mod Compiled
pub mod Licences
pub mod Accepted
pub mod Stages
