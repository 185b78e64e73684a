-- The theory of the spelling, from its parts up.
pub mod SpellingParams
pub mod SpellingApart
pub mod SpellingParts
pub mod SpellingTypes
pub mod SpellingLets
pub mod SpellingCode
pub mod SpellingMeans
-- The loops of the decoder and of the encoder.
pub mod SpellingLoops
pub mod SpellingWrites
-- Functions by name.
pub mod NamedFuncs
-- What the types keep.
pub mod Kept
-- The meaning on small codes.
pub mod Rows
