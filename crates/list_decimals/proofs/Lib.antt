-- Lemmas that belong to no one function.
pub mod DecimalLaws
pub mod Worked
pub mod Spelling
