-- What the program tells the system that ran it.
pub mod Exits
