pub mod Continuing
pub mod Distances
