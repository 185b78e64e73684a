-- Steps of the reader.
pub mod Heading
pub mod Taking
pub mod Adding
pub mod Answering
pub mod Deciding
pub mod Joining
