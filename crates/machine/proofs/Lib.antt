-- The laws that belong to no one function.
pub mod Stack
pub mod Counting
pub mod Moves
pub mod Ticks
