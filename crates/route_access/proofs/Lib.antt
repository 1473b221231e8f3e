pub mod EachSls
pub mod Filled
pub mod Same
pub mod Told
