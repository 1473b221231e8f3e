pub mod GivenWhen
