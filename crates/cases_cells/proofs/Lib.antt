pub mod Copies
pub mod Holding
pub mod Leasing
pub mod Named
pub mod Readable
pub mod Taking
pub mod TreeLaws
