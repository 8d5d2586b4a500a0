pub mod SourceText
pub mod Statements
