pub mod Float
pub mod Reply
pub mod Order
pub mod Answers
pub mod Stamp
pub mod Timestamp
pub mod Laws
