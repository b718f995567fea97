pub mod Added
pub mod Loads
