-- Answers as the C interface tells them.
pub mod Words
pub mod WordLaws
