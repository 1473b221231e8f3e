pub mod Given
pub mod Reasons
pub mod Resent
pub mod Twice
pub mod AtOnce
