pub mod Discrimination
pub mod Sorted
