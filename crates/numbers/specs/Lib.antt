pub mod Numbers
pub mod Taken
