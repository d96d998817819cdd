pub mod Flat
pub mod Flags
pub mod Lengths
pub mod Laws
