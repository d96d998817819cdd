pub mod Kind
pub mod Words
pub mod Map
pub mod Samples
pub mod Row
pub mod Answers
pub mod Buffers
pub mod Laws
