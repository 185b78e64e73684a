-- Scripts of tenants, and their text.
pub mod Tenants
pub mod Text
pub mod Reading
pub mod LineLaws
pub mod StateLaws
pub mod Words
pub mod Answers
pub mod Parts
