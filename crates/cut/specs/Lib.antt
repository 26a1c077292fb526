-- Cut.
pub mod Cut
pub mod Outlines
pub mod Solid
pub mod SolidLaws
pub mod OutlineLaws
pub mod Mirrors
pub mod Worked
