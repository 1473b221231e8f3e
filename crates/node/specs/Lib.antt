pub mod Memory
pub mod Call
pub mod Ask
pub mod View
