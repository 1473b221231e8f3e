pub mod SetLines
