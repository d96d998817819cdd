pub mod Lent
pub mod Changes
pub mod FirstHops
pub mod NoCommonTime
pub mod CommonTime
pub mod Lookup
