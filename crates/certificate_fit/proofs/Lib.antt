pub mod Params
pub mod Order
pub mod Walking
pub mod Functions
pub mod ReadLaws
