pub mod Agreeing
pub mod NumberLists
