pub mod Demand3
pub mod Histories
pub mod Runs
