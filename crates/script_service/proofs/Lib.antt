pub mod Filing
pub mod Handing
pub mod OneReport
pub mod JobNames
pub mod OneJournal
pub mod OneWorld
pub mod OneSummary
pub mod InSlices
