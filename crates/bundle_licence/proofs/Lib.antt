-- Licences of bundles: what is answered, and that there is one answer.
pub mod Answering
pub mod OneLicence
