pub mod Zeros
pub mod Fields
pub mod Marks
pub mod Found
pub mod Here
pub mod Forests
pub mod Checks
pub mod Rows
