pub mod CommentLemmas
pub mod FormLemmas
pub mod NumberLemmas
pub mod ReadingLemmas
pub mod ScanLemmas
pub mod SliceLemmas
pub mod Tables
pub mod TotalLemmas
