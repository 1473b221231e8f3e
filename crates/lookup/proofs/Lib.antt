pub mod FirstRows
pub mod Named
pub mod Walks
