pub mod Blocks
pub mod Links
pub mod Origin
pub mod Rows
pub mod Step
