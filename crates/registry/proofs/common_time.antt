pub mod CommonHops
pub mod CommonTimes
pub mod Narrowing
pub mod Spans
