pub mod Lines
pub mod Grown
