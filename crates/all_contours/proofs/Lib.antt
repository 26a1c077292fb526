-- Lemmas that belong to no one function.
pub mod Stamps
pub mod ContourWalking
pub mod Outlining
