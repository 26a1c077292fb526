-- The listing program: its limits, refusals, lines and output.
pub mod Listing
pub mod Steps
pub mod ListingLaws
pub mod EveryLaws
pub mod Worked
