pub mod Wrapping
pub mod Digits
pub mod Leading
pub mod Stopping
pub mod Decoding
pub mod Judging
pub mod Answering
