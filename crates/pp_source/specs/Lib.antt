pub mod Index
pub mod Names
pub mod Numbers
pub mod Scan
pub mod Texts
