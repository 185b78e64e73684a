-- Licences of bundles.
pub mod Bundled
pub mod Refusing
