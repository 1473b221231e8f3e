pub mod DestinationKept
pub mod Faults
pub mod Kept
