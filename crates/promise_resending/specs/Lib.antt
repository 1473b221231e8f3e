pub mod Reasons
pub mod Resent
pub mod Twice
