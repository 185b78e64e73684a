-- How the unknowns and the rows of a code's system are counted.
pub mod Counting
