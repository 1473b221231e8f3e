pub mod Declaring
pub mod Entering
