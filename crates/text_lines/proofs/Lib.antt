-- Lemmas on single functions.
pub mod Cuts
pub mod Caps
pub mod Loop
pub mod Exact
pub mod Written
