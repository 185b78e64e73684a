-- What the verifier accepts, all that it answers, and its check of certificates as a walk.
pub mod Accepted
pub mod AcceptedLaws
pub mod Finding
pub mod Numbered
pub mod Remembered
pub mod Settling
pub mod Verdicts
pub mod Walk
