-- Contours within contours: depth and parent of each contour of a layer, and the operation as a whole.
pub mod Nests
pub mod Nesting
pub mod Steps
pub mod NestsLaws
pub mod HolderLaws
pub mod NestingLaws
pub mod Worked
