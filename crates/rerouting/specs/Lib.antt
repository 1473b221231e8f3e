pub mod Transfer
pub mod Timer
