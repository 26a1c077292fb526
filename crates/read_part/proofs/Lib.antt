-- Lemmas that belong to no one function.
pub mod Runs
pub mod Words
pub mod Finding
pub mod Answers
pub mod PartLaws
