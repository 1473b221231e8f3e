pub mod Unreached
pub mod Passing
