pub mod States
pub mod Drops
