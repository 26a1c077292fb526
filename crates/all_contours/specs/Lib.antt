-- The contours of a height from the list of its crossings.
pub mod Rounds
