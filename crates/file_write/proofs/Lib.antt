-- Lemmas that belong to no one function.
pub mod Rows
pub mod Measuring
pub mod Writing
