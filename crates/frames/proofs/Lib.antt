pub mod Built
pub mod Commands
pub mod Given
pub mod Numbered
pub mod Spelled
