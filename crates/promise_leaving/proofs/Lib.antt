pub mod Queues
pub mod Passing
pub mod Gone
pub mod Going
pub mod Moved
pub mod Cleared
pub mod Changes
pub mod Ended
