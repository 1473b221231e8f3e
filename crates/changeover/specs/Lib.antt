pub mod Fail
