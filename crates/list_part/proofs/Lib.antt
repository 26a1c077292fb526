-- Lemmas that belong to no one function.
pub mod Parts
pub mod Reading
pub mod Lists
