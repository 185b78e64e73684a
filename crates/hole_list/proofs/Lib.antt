pub mod AtPlaces
pub mod Holding
pub mod Rows
