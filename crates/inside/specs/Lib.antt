-- A point in a contour: the definition, the extent of a contour, and their laws.
pub mod Inside
pub mod Extents
pub mod Worked
pub mod OrderLaws
pub mod ParityLaws
pub mod EdgeLaws
pub mod PointLaws
pub mod RoundLaws
