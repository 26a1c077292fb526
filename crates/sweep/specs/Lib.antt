-- The sweep: Start, Step and Layer.
pub mod Sweep
pub mod Operations
pub mod SweepLaws
pub mod Places
pub mod SweepTests
