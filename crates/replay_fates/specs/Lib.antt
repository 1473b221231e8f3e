pub mod Fates
pub mod Holds
