-- The system of a code, and what its solutions are.
pub mod Looked
pub mod Unknowns
pub mod Forms
pub mod Found
pub mod SystemLaws
pub mod theory
