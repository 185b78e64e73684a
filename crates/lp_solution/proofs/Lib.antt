pub mod Takings
pub mod Taken
