pub mod ItemLaws
pub mod KindLaws
pub mod SearchLaws
pub mod CountSteps
pub mod FitSteps
pub mod ReachSteps
