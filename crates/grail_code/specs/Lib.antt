-- Grail code as plain data, its spelling, when it is well formed, and what it means.
pub mod Code
pub mod Spelling
pub mod Reader
pub mod CodeReader
pub mod Decoding
pub mod WellFormed
pub mod Meaning
pub mod Soundness
pub mod Places
pub mod PlaceLaws
pub mod MeaningLaws
pub mod SoundLaws
pub mod Limits
pub mod RangeLaws
pub mod ByName
pub mod Params
