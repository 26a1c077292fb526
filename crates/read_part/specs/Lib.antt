-- Read part.
pub mod Parts
pub mod Layouts
pub mod Worked
