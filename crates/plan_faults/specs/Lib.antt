pub mod Given
pub mod Faults
pub mod Told
