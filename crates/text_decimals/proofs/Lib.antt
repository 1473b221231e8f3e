pub mod Ranges
pub mod Decimals
