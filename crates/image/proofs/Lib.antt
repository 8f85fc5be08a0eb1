-- The laws that belong to no one function.
pub mod Records
pub mod Whole
