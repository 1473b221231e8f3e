mod Readings
pub mod Refusals
