pub mod Once
pub mod Pages
