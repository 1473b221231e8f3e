pub mod Replying
pub mod Stopping
