pub mod NamesNothing
pub mod Received
pub mod Table
pub mod Asked
pub mod Unchanged
