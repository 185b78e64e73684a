-- Bounds as text.
pub mod Texts
