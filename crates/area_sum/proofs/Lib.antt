-- Lemmas for the functions of `unchecked`.
pub mod Adding
