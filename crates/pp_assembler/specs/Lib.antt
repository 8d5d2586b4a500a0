pub mod DeckLines
pub mod Decks
pub mod Meaning
pub mod Naming
pub mod Order
pub mod RowStatements
pub mod Sources
