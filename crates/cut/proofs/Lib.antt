-- Lemmas that belong to no one function.
pub mod Outlining
pub mod Slicing
pub mod CutLaws
pub mod MirrorLaws
