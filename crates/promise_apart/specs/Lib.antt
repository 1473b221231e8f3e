pub mod LetGo
pub mod WhileT6
pub mod Transfers
