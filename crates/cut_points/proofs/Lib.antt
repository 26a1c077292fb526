-- Lemmas of the proofs.
pub mod Rounding
pub mod Reading
pub mod Writing
pub mod RoundedLaws
pub mod HalfLaws
