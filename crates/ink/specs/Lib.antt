-- Ink: what layers are charged, what the operation answers, and what it promises.
pub mod Charges
pub mod Inking
pub mod Steps
pub mod ReadAreas
pub mod ChargeLaws
pub mod InkLaws
pub mod Worked
