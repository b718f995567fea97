pub mod Frames
pub mod Examples
pub mod Files
