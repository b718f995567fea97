pub mod Words
pub mod Numerals
pub mod Phrase
pub mod Finds
pub mod Parse
pub mod Typed
