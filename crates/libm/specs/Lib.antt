pub mod Sqrt
pub mod Libm
pub mod Enclosure
pub mod Laws
