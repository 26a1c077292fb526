-- Lemmas that belong to no one function.
pub mod Bounding
pub mod Putting
