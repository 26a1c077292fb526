-- Lemmas for the functions of this crate.
pub mod Answering
pub mod LayerCharges
pub mod LayerRuns
pub mod FileCharges
pub mod InkLaws
pub mod ReadLaws
