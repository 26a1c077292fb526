-- Clean: its contract, what it promises, and worked values.
pub mod Clean
pub mod Worked
