pub mod Blanks
pub mod Cuts
pub mod Decks
pub mod Places
