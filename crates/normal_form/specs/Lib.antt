-- The normal form of Camelot programs.
pub mod Normal
pub mod Running
pub mod Answers
pub mod Tables
pub mod Counts
pub mod Live
pub mod Coded
pub mod Facts
pub mod Parts
pub mod KindParts
pub mod Programs
pub mod SetLaws
