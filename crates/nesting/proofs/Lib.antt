-- Lemmas that belong to no one function.
pub mod Meetings
pub mod Holding
pub mod Filling
pub mod Answers
