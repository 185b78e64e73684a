-- The code of programs in normal form.
pub mod Generated
pub mod Marked
