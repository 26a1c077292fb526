-- Lemmas for the functions of `unchecked_position`.
pub mod PointSteps
pub mod ContourSteps
pub mod LayerSteps
