pub mod Reader
pub mod Checking
