pub mod Counting
pub mod Fitting
pub mod Sizing
