-- Lemmas that belong to no one function.
pub mod Moves
pub mod Operating
pub mod AnswerLaws
pub mod RiseLaws
