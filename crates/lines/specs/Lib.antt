pub mod Reads
pub mod Items
