-- Lemmas that belong to no one function.
pub mod Rising
pub mod Lifting
