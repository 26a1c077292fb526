-- Lemmas that belong to no one function.
pub mod NumberReading
pub mod NumberWriting
pub mod Signs
