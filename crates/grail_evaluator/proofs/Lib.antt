pub mod CallLaws
pub mod LocalLaws
pub mod StepLaws
