pub mod BitSteps
pub mod Folds
pub mod TextNumbers
