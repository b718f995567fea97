pub mod Whole
pub mod Ranges
pub mod Top
pub mod Types
