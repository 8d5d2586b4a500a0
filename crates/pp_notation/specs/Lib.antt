pub mod Cells
pub mod Columns
pub mod Digits
pub mod DisplayCode
pub mod Instructions
pub mod InstructionWords
pub mod Mnemonics
pub mod Rows
