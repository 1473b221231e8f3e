pub mod Flagged
pub mod Placing
