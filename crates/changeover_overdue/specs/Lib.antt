pub mod Expire
