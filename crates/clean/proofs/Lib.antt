-- Lemmas that belong to no one function.
pub mod Answers
pub mod CleanLaws
