pub mod Ascii
pub mod Digits
pub mod Decimal
pub mod Reading
pub mod Writing
pub mod Laws
