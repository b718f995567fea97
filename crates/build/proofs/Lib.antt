pub mod Sheet
pub mod Demands
pub mod Cooked
pub mod SizeFirst
pub mod Examples
pub mod Building
