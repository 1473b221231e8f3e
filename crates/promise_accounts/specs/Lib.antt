pub mod Gone
pub mod Ending
