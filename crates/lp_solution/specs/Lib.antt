-- Certificates from the values of unknowns.
pub mod Taking
