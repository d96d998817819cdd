pub mod WipeWritten
pub mod Wiped
