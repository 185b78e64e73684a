-- The kind of an expression is the one that is computed, and a program has one typing.
pub mod Determined
pub mod OneTyping
