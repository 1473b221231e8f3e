pub mod Holding
pub mod Joining
pub mod Making
pub mod Due
