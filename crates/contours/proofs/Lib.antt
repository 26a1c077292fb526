-- Lemmas that belong to no one function.
pub mod Answers
pub mod ContourLaws
pub mod Parts
pub mod Sums
