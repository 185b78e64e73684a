-- What stops a call.
pub mod Stopping
