pub mod Areas
pub mod Index
pub mod Parts
pub mod Same
