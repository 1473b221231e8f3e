pub mod Regular
pub mod Run
