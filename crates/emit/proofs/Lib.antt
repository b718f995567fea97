pub mod Resolving
pub mod Grow
pub mod Settling
pub mod Outcome
pub mod Joins
