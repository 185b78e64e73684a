-- Runs of cells of one arena.
pub mod Arenas
pub mod Deeds
pub mod Ownership
pub mod Range
pub mod RangeLaws
