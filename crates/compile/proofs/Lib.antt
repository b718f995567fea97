pub mod Endings
pub mod Walked
