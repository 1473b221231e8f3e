pub mod Places
pub mod Labels
