-- Values as text.
pub mod Text
pub mod Printing
pub mod Grammar
pub mod Dues
pub mod Due
pub mod Later
pub mod Finite
pub mod Choosing
pub mod Splitting
pub mod Values
pub mod Answers
pub mod Only
pub mod Inhabited
