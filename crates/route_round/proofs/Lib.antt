pub mod ByTable
pub mod Lists
pub mod Words
