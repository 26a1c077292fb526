-- Lemmas that belong to no one function.
pub mod Comparisons
pub mod Raising
pub mod VerdictLaws
