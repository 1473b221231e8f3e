pub mod Management
