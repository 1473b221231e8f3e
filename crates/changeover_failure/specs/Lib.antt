pub mod Failure
pub mod Overdue
