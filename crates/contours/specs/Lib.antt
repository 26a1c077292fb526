-- Contours in a table of points, and their areas.
pub mod Contours
pub mod ContourLaws
pub mod Areas
pub mod Runs
pub mod AreaLaws
pub mod TrapezoidLaws
pub mod PolygonLaws
pub mod ContourAreaLaws
pub mod Worked
