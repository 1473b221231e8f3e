pub mod Data
pub mod Find
pub mod Sound
