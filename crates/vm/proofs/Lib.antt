pub mod Examples
pub mod Effects
pub mod Jumps
pub mod Steps
pub mod Bytes
