pub mod ReadLinks
pub mod LinkLists
pub mod ExchangeLinks
pub mod Explained
pub mod Agreement
