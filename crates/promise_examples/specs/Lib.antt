pub mod Set
pub mod Changeover
pub mod Table
