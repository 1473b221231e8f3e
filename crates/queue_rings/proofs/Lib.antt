pub mod Cases
pub mod Runs
pub mod Steps
pub mod Spans
pub mod Queues
