pub mod Going
pub mod Apart
