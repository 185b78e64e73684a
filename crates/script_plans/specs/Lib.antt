-- What comes of scripts.
pub mod Programs
pub mod Fates
pub mod Lines
pub mod CallPlans
pub mod Rows
pub mod Asked
pub mod Answers
pub mod Turns
pub mod Wanted
pub mod ScriptLaws
