pub mod Sharing
pub mod Asking
pub mod ChangedOver
pub mod ByMessage
pub mod Naming
pub mod SentDropped
pub mod GoesOut
pub mod DemandThree
