mod Rows
pub mod Books
pub mod Keeping
pub mod Steps
