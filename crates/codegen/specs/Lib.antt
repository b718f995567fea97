pub mod Facts
pub mod Protocols
pub mod Guards
pub mod Block
pub mod Emit
pub mod Nets6
pub mod Compile
pub mod Cooked
