-- Lemmas that belong to no one function.
pub mod Edges
pub mod Rounds
pub mod Extending
pub mod Bounds
pub mod Sizes
pub mod RightLaws
pub mod ExtentLaws
