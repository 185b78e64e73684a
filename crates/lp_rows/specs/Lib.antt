-- The system of a code, built.
pub mod Dense
pub mod Plain
pub mod Walk
