pub mod LinkWords
