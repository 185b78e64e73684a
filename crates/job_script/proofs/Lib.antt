-- Steps of the reader.
pub mod Caps
pub mod Stopping
pub mod Naming
pub mod Growing
pub mod Heading
pub mod Body
pub mod Answering
pub mod Placing
pub mod Deciding
pub mod Lengths
pub mod Joining
pub mod Counted
pub mod Fronts
pub mod MadeRight
pub mod Keys
