pub mod Reading
pub mod Direct
