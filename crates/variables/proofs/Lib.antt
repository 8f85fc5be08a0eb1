-- The laws that belong to no one function.
pub mod Options
pub mod Values
pub mod Reading
