pub mod Carries
pub mod OneSource
pub mod Replying
pub mod Stored
