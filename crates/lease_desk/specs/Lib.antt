-- The desk that leases runs of one arena to jobs, and its journal.
pub mod Journal
pub mod Filing
pub mod Progress
pub mod Within
pub mod Outs
pub mod BookView
pub mod Book
pub mod Lease
pub mod Desk
pub mod Kept
pub mod Answers
pub mod JournalLaws
pub mod theory
