-- Lemmas that belong to no one function.
pub mod Searching
pub mod Fetching
pub mod Lining
pub mod Filling
pub mod Running
