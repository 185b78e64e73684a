-- Accounts of frames by their places: where lines stand, what is told of a place, and the walk to it.
pub mod Tables
pub mod Accounts
pub mod Walk
