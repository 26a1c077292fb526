-- What tracing leaves in names and ends.
pub mod Traces
pub mod Walks
