pub mod SpanRows
