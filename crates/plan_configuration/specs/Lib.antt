pub mod Configure
