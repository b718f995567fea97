pub mod Places
pub mod Spaces
pub mod Numerals
pub mod Examples
pub mod Grammar
pub mod Answers
pub mod Passes
