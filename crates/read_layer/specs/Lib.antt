-- Read layer: what it answers and leaves, and what it promises.
pub mod Reading
pub mod Places
pub mod ReadingLaws
pub mod Worked
