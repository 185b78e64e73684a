pub mod Comments
pub mod Forms
pub mod Reading
pub mod Steps
