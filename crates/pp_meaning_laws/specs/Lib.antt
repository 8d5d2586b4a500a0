pub mod Cuts
pub mod Images
