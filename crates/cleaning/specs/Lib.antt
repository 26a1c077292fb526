-- Cleaning contours and layers, the two profiles, and the laws of cleaning.
pub mod Cleaning
pub mod Profiles
pub mod Tests
pub mod PointLaws
pub mod Worked
