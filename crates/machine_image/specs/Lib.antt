-- Images of paused runs.
pub mod Images
pub mod Reading
pub mod Words
pub mod Parts
pub mod Writing
pub mod WordLaws
pub mod ImageLaws
pub mod Rows
