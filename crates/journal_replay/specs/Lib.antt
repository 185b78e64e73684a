-- What journals of leases come to.
pub mod Replaying
pub mod Within
pub mod States
pub mod FrontLaws
