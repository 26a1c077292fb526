-- Lemmas that belong to no one function.
pub mod Turns
pub mod LayerLaws
pub mod LinkLaws
pub mod SectionLaws
