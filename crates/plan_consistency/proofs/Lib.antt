pub mod Fits
pub mod Leaves
pub mod Sets
pub mod Links
pub mod Routes
pub mod Made
pub mod Named
pub mod Ranges
