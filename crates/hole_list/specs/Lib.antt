-- Holes of a run of an arena.
pub mod CountLaws
pub mod Holes
pub mod Inside
pub mod HolesLaws
pub mod KeptLaws
pub mod OutLaws
pub mod Places
pub mod Placing
pub mod PlacingLaws
