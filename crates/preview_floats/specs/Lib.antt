-- Floats that are whole numbers, and points drawn after an origin.
pub mod WholeFloats
pub mod WholeLaws
pub mod WholeTestLaws
pub mod DrawnPoints
pub mod DrawnLaws
