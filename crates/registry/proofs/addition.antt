pub mod Accepted
pub mod AddWritten
pub mod Admitting
