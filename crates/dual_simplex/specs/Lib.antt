-- The least solutions of systems of linear inequalities, and the run that finds them.
pub mod Division
pub mod Equation
pub mod Tableau
pub mod Choices
pub mod Systems
pub mod Answer
pub mod Run
pub mod Feasible
pub mod Promises
pub mod Reduced
pub mod Shape
pub mod Scans
pub mod Lines
pub mod Multiples
