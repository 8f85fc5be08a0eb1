-- The laws that belong to no one function.
pub mod Fitting
pub mod Clearing
pub mod Evaluating
