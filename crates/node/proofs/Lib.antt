pub mod Apart
pub mod Giving
pub mod Events
pub mod Viewed
