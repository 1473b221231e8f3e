pub mod Heads
pub mod Turns
