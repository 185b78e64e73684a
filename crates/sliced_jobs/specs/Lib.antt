-- What it is to run planned jobs in slices.
pub mod Kits
pub mod Parts
pub mod Ready
pub mod Slices
pub mod Table
pub mod UnderWay
