pub mod Condition
pub mod Forms
pub mod Plan
pub mod Search
