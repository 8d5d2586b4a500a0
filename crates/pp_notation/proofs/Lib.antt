pub mod Programs
pub mod RowCells
