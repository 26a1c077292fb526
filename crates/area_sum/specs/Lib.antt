-- The doubled area of a contour by trapezoids, point by point, and that this is the shoelace formula's.
pub mod Summing
pub mod SummingLaws
