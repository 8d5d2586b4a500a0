pub mod Devices
pub mod Turn
pub mod Recording
pub mod Inner
