-- The laws that belong to no one function.
pub mod Progress
pub mod Tables
pub mod Images
