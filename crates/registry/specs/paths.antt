pub mod Edges
pub mod Walks
