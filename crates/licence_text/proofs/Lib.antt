-- Bounds as text: what is written piece by piece.
pub mod Joining
