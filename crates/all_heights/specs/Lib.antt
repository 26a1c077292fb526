-- The heights that All layers takes, and their laws.
pub mod Heights
pub mod HeightLaws
pub mod Taking
pub mod TakingLaws
pub mod Worked
