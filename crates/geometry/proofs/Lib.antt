pub mod Absolute
pub mod ReplyInjective
pub mod Squares
pub mod UnitDistance
pub mod ValidFast
pub mod Order
pub mod Finites
