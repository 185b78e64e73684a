-- Texts of refusals.
pub mod Texts
