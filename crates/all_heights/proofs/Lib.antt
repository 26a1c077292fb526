-- Lemmas that belong to no one function.
pub mod Scans
pub mod Counting
pub mod Additions
pub mod DefaultLaws
