-- The evaluator beside the meaning of code.
pub mod Trees
pub mod Locals
pub mod Outcomes
pub mod Ends
