pub mod Columns
pub mod Digits
pub mod Filling
pub mod Indexes
pub mod Kept
pub mod Keys
pub mod Walks
