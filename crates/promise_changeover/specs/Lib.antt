pub mod ChangedOver
pub mod DemandThree
