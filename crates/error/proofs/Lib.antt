pub mod All
pub mod Either
pub mod Among
