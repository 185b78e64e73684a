pub mod Sorted
pub mod Ready
pub mod Bodies
pub mod Compiled
pub mod Spelled
pub mod Bits
pub mod Marking
pub mod Seeing
pub mod BlockCode
pub mod Props
pub mod WellProps
pub mod Singly
mod Rows
