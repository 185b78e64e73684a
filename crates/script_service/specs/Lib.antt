-- Scripts that are served.
pub mod Service
pub mod Sliced
pub mod SlicedSteps
pub mod Worlds
pub mod Handed
pub mod Steps
pub mod Filed
pub mod Counting
pub mod CountingLaws
