pub mod Filling
pub mod LastNames
pub mod Units
