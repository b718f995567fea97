pub mod Counter
pub mod Low
pub mod Loads
pub mod Onward
pub mod Entry
pub mod Ways
