-- Lemmas on single functions.
mod Limits
mod Matching
mod Stepping
mod Pieces
