pub mod CommandLine
pub mod Decimal
pub mod Inner
pub mod Options
