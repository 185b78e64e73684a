-- Laws, for the proofs of this crate and of those above it.
-- How the laws of systems are proved.
pub mod Lent
pub mod Listing
pub mod Certified
pub mod Fitted
pub mod Off
pub mod Formed
pub mod Natural
pub mod Ring
pub mod Values
pub mod Rows
pub mod Costs
pub mod Distinct
pub mod Small
pub mod Solutions
