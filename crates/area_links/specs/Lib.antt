pub mod LinkRecords
