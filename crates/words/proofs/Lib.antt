pub mod Scans
pub mod Addresses
