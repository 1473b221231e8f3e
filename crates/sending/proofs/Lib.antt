pub mod Window
pub mod HeldBack
