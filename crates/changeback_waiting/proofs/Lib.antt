pub mod Expiry
pub mod Answering
