pub mod Run
pub mod Ring
pub mod Move
