pub mod Placed
pub mod Again
pub mod Fits
