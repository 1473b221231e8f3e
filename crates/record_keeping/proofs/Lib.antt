pub mod Fields
pub mod ReadsBack
pub mod Room
