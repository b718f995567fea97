pub mod Endings
pub mod Program
pub mod Words
