pub mod Kept
pub mod Numbers
pub mod SetKept
pub mod Tests
