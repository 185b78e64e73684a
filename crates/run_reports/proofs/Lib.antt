pub mod Joining
pub mod Lists
pub mod Telling
pub mod Tallying
