pub mod Which
pub mod Chosen
