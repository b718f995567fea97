pub mod Filed
pub mod Types
