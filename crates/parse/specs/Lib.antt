pub mod Steps
pub mod Reading
pub mod Parts
pub mod Operators
