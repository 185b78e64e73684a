-- Private: words for the programs' own functions, by table.
pub mod Covered
pub mod Held
pub mod Jobs
pub mod Taken
pub mod Tenanted
pub mod Trees
pub mod Slices
