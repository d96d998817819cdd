pub mod Form
pub mod Book
pub mod Files
pub mod Answers
pub mod Reads
pub mod Laws
pub mod walks
