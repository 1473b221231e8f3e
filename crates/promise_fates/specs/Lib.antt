pub mod Told
pub mod Names
pub mod Lines
pub mod History
pub mod WholeRun
