pub mod Reply
pub mod Areas
