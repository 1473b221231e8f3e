pub mod Ending
pub mod Ended
