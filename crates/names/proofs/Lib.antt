pub mod Capitals
pub mod Letters
pub mod Rows
