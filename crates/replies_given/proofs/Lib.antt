pub mod Numbers
pub mod Exactly
