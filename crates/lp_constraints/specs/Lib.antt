-- Inference of certificates.
pub mod Inference
