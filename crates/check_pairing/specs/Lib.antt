-- Refusal 6, and the pairing.
pub mod Partners
pub mod EdgeUse
pub mod Joining
