pub mod Leaving
pub mod Rows
pub mod Judging
pub mod Numbers
