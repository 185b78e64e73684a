-- What tenants are told.
pub mod Rooms
pub mod Replies
pub mod Texts
pub mod Scripts
pub mod Service
pub mod Holding
pub mod Steps
pub mod Running
pub mod Handed
pub mod Written
pub mod ReplyLaws
pub mod Granting
pub mod Closing
