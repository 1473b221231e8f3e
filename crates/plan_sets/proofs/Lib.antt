pub mod Faults
pub mod Kept
