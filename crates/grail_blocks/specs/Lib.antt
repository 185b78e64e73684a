-- Lets and ends of blocks, and what they mean.
pub mod Blocks
pub mod Running
pub mod RunningLaws
pub mod Events
pub mod States
pub mod StateLaws
pub mod NarrowLaws
