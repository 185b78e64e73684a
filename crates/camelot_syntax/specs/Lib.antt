-- Private: words for functions of this crate. What the contract of `parse` cites is in `camelot_grammar`.
pub mod States
pub mod Answers
