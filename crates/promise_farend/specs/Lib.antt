pub mod History
pub mod FarEnd
pub mod Card
