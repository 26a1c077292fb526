-- Lemmas for the functions of this crate.
pub mod PointFills
pub mod LayerFills
pub mod LayerSearch
pub mod Answering
pub mod ReadingLaws
