pub mod Inner
pub mod LoadLines
