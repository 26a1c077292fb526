-- Lemmas that belong to no one function.
pub mod Merging
pub mod Advance
pub mod Searches
pub mod Dealing
pub mod Skipping
