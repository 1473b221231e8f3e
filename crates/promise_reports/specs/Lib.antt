pub mod Tells
pub mod Unwritten
pub mod ByCode
