-- Lemmas that belong to no one function.
pub mod Strikes
pub mod RingWalking
pub mod RingsTraced
pub mod Seeking
