-- Steps of the reader and the writer.
pub mod Caps
pub mod Stopping
pub mod Pairs
pub mod ItemSteps
pub mod FuncSteps
pub mod Starting
pub mod Answering
pub mod Written
