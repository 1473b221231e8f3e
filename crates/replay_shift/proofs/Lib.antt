pub mod Room
pub mod FatesRoom
pub mod OnPage
pub mod Lines
pub mod Running
pub mod Going
pub mod Whole
