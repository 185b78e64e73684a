-- The lines of a certificate, block by block.
pub mod Shapes
pub mod ShapeLaws
