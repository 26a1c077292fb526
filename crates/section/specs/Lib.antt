-- The section of a mesh and its contours.
pub mod Section
pub mod Rings
pub mod Contours
pub mod RingLaws
pub mod Layers
pub mod OrbitLaws
pub mod Links
pub mod RightLaws
pub mod Triangles
