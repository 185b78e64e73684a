-- Certificates that grant their code, and licences.
pub mod Books
pub mod Rules
pub mod Fitting
pub mod Checks
pub mod Worth
pub mod Bound
pub mod Licensed
pub mod Failing
pub mod CheckLaws
pub mod PotentialLaws
pub mod theory
pub mod FirstConLaws
pub mod Sites
