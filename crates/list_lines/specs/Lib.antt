-- The listing's limits and lines.
pub mod Limits
pub mod Lines
pub mod Steps
