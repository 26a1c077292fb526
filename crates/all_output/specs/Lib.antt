-- The bound of a layer file.
pub mod Bounds
