pub mod Loads
pub mod MoreLines
pub mod MoreRows
