pub mod Composing
pub mod Joining
pub mod LookupLaws
pub mod LookupEnds
pub mod NotServed
pub mod Overflow
