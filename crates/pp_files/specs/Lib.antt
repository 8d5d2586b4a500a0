pub mod Fault
pub mod Files
pub mod Inner
pub mod Rows
