pub mod TableLaws
pub mod LineLaws
pub mod VectorLaws
pub mod PlaceLaws
