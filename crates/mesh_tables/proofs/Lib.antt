-- Lemmas that belong to no one function.
pub mod OrderTest
pub mod PairingTest
pub mod Openings
