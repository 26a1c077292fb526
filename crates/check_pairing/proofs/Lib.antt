-- Lemmas that belong to no one function.
pub mod PartnerLaws
pub mod Counts
pub mod Edges
pub mod Threads
pub mod Queues
pub mod Turns
pub mod Joins
pub mod Pairs
