-- Reports.
pub mod EndsAs
pub mod Told
pub mod Report
pub mod Summary
pub mod Lines
pub mod Summing
pub mod JobNames
pub mod TextLaws
