-- Check.
pub mod Check
pub mod CheckLaws
pub mod Worked
