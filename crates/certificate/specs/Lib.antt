-- Certificates of heap bounds, and their text.
pub mod Certificates
pub mod Text
pub mod Answers
pub mod Words
pub mod Reading
pub mod Steps
pub mod Faults
pub mod Writing
pub mod OrderLaws
pub mod VectorLaws
pub mod PartLaws
pub mod GrowingLaws
pub mod AddingLaws
pub mod LineLaws
pub mod TextLaws
