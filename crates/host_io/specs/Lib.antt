-- What sources and sinks of bytes mean.
pub mod Counts
pub mod Source
pub mod Sink
pub mod Memory
