pub mod Climbs
pub mod Checks
