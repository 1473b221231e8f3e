pub mod Content
pub mod Made
pub mod Given
