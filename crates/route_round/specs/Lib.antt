pub mod Round
pub mod Table
