pub mod Search
pub mod Taken
