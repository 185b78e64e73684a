pub mod Behind
pub mod Complete
pub mod CompleteDecls
pub mod Concrete
pub mod Sound
pub mod Closing
pub mod LawLemmas
pub mod ShapeLemmas
pub mod AnswerLemmas
pub mod LexemeLemmas
pub mod TokenLemmas
pub mod Place
mod Rows
