pub mod Lookups
pub mod Walks
pub mod Nodes
pub mod Rows
