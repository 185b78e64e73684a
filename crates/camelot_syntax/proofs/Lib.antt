pub mod StackLemmas
pub mod ParseLemmas
pub mod RunLemmas
pub mod WordLemmas
pub mod LevelLemmas
