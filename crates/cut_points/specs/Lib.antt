-- Points: where the edges of a mesh meet a height.
pub mod Points
pub mod Climbs
pub mod Normals
pub mod PointLaws
pub mod NormalLaws
pub mod Worked
