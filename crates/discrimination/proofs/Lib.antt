pub mod BySort
