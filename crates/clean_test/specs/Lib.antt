-- What the points of a contour show one by one, and that this tells whether it is clean.
pub mod Seeing
pub mod SeeingLaws
