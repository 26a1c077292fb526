-- Lemmas that belong to no one function.
pub mod Lines
pub mod Sums
pub mod Places
pub mod Slices
pub mod Layers
