-- What the functions of this crate answer, what follows from their answers, and the loops that find them.
pub mod Answers
pub mod Watching
pub mod AnswerLaws
pub mod AreaLaws
pub mod RunLaws
