-- What cleaning a layer asks of its tables and leaves in them.
pub mod Layers
