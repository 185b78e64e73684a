-- Cited by contracts. The grammar of Camelot.
pub mod Lexemes
pub mod Grammar
pub mod Program
pub mod Levels
pub mod Parsing
pub mod Machine
