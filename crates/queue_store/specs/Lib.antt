pub mod Fresh
pub mod Sound
pub mod Place
