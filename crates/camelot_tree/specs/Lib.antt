-- The tree of a Camelot program, and its meaning.
pub mod Tree
pub mod Shape
pub mod Spine
pub mod Programs
pub mod Meaning
pub mod Tokens
pub mod SpineLaws
pub mod MeaningLaws
pub mod Cells
