pub mod Capture
pub mod Counting
pub mod Turns
pub mod Reads
pub mod Promises
