mod Rows
pub mod Shifting
pub mod Asking
pub mod Lines
pub mod Cutting
pub mod Holding
