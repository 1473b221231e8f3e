pub mod InOrder
pub mod Inserted
pub mod Push
