pub mod Access
pub mod ComingBack
pub mod InTurn
pub mod Loss
pub mod Ranks
pub mod Serving
pub mod Used
