pub mod Index
pub mod Part
pub mod Put
