pub mod LineCommands
pub mod LineEffects
pub mod LineWords
