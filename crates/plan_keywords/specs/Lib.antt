pub mod StatementWords
