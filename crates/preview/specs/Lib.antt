-- Preview of a layer: the calls that draw it.
pub mod Calls
pub mod Preview
pub mod CallLaws
pub mod Places
pub mod PlaceLaws
pub mod PreviewLaws
pub mod RunLaws
pub mod ReadCalls
pub mod ReadLaws
pub mod Exact
pub mod ExactLaws
pub mod Worked
