-- The rule of use of Camelot programs.
pub mod Uses
pub mod Flow
pub mod Counted
pub mod Tables
pub mod TableLaws
pub mod Walk
pub mod Answers
pub mod Fairness
pub mod FairLaws
