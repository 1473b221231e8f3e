pub mod Passage
