pub mod Filling
pub mod Octets
