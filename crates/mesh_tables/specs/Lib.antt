-- The tests of a mesh, and what those of a pairing and of an order table go by.
pub mod Meeting
pub mod Rising
pub mod MeshTests
pub mod OpeningLaws
