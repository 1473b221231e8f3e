pub mod InService
