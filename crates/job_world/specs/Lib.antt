-- Plans of runs, and the world in which they run beside each other.
pub mod Plans
pub mod Words
pub mod Asking
pub mod Codes
pub mod PlanLaws
pub mod Put
pub mod World
pub mod Isolation
pub mod WorldLaws
pub mod Schedules
pub mod theory
