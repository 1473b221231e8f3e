pub mod LinkLines
