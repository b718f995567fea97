pub mod Hoist
