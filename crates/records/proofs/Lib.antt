pub mod Ordered
pub mod Slices
pub mod Stands
pub mod Writes
pub mod Records
