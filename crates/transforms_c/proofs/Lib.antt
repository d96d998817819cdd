pub mod Areas
pub mod FlatFixes
pub mod LengthsFit
