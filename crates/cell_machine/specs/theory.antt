-- Laws, for the proofs of this crate and of those above it.
-- How the theorems of `MachineLaws` are proved, from the bottom up: how often offsets stand in lists and cells in
-- values; writes and what they leave alone; the middle of a step, with what it has in hand; lets, calls, returns, jumps
-- and matches; one step, also in a longer list of cells; the beginning of a run, and whole runs.
pub mod Counting
pub mod Holdings
pub mod Framing
pub mod Laying
pub mod Reading
pub mod Open
pub mod Writing
pub mod Course
pub mod LetSteps
pub mod Calling
pub mod CallSteps
pub mod EndSteps
pub mod CaseSteps
pub mod Keeping
pub mod Stepping
pub mod Beginning
pub mod WholeRuns
pub mod Widening
pub mod Living
pub mod Budgets
pub mod Balanced
pub mod Pauses
pub mod PutBack
pub mod Begun
