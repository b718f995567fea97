pub mod Adding
pub mod Starts
pub mod Nets
