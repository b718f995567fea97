pub mod Segments
pub mod Conditions
