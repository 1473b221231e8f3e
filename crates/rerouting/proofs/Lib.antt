pub mod Transferring
pub mod Expiring
