pub mod Seek
pub mod WhereTold
