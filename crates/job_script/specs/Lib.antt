-- Scripts of programs and jobs, and their text.
pub mod Scripts
pub mod Text
pub mod Answers
pub mod Words
pub mod Made
pub mod Fronts
pub mod Reading
pub mod Heads
pub mod Steps
pub mod Places
pub mod Faults
pub mod DemandLaws
pub mod WritingLaws
pub mod HeadLaws
pub mod StateLaws
pub mod Known
