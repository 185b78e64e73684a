-- Typing of Camelot programs.
pub mod Kinds
pub mod Typing
pub mod Typed
pub mod TypedPrograms
pub mod Settled
pub mod NumberLaws
pub mod Fitting
pub mod TypingLaws
