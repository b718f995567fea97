pub mod Build
pub mod Demands
pub mod Cooked
pub mod SizeFirst
pub mod Promises
