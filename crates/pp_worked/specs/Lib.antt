pub mod Devices
pub mod Machines
pub mod Processors
pub mod Sessions
