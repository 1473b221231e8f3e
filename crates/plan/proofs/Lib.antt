pub mod Found
pub mod Halving
pub mod Order
pub mod Sound
pub mod Split
pub mod Tables
