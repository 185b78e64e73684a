pub mod Marking
pub mod Looking
pub mod FreeWalk
pub mod Leaves
pub mod Piles
pub mod Ways
pub mod Bits
