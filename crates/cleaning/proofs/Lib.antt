pub mod Comparing
pub mod AreaLaws
pub mod CleaningLaws
pub mod SizeLaws
pub mod VarietyLaws
