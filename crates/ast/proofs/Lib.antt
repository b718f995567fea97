pub mod Proper
pub mod Prefix
pub mod Walk
pub mod Bounds
pub mod Examples
pub mod Refusals
