pub mod Replies
pub mod Seconds
pub mod ShareWithin
pub mod Options
