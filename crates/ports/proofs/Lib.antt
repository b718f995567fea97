pub mod Hoisting
