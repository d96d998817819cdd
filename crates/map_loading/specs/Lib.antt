pub mod Answers
pub mod Loading
pub mod Laws
pub mod Numbering
