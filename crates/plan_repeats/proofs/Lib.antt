pub mod Lower
pub mod Searches
