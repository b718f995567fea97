pub mod Bytes
pub mod Program
