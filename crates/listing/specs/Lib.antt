-- What the reading of an input answers.
pub mod Inputs
