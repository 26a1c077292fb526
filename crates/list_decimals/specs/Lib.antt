-- Numbers in decimal, and texts written into an output.
pub mod Decimals
pub mod Texts
pub mod TextLaws
