pub mod Loaded
pub mod Meaning
