pub mod Rests
pub mod Names
pub mod Books
