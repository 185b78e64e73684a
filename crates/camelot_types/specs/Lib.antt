-- The types of Camelot programs.
pub mod Walk
pub mod Solving
pub mod Doing
pub mod Tables
pub mod Working
pub mod Facts
pub mod Declaring
pub mod Ending
pub mod Checked
