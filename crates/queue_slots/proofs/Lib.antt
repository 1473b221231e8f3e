pub mod Messages
pub mod ReadBack
