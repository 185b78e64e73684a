-- Which cells of a range have an owner.
pub mod Marks
pub mod MarkLaws
pub mod Values
pub mod FreeLists
pub mod Looks
pub mod Bits
