-- The models of the devices, for the contracts of inner calls and for proofs. What the machine does is defined without them.
pub mod AllDevices
pub mod Attached
pub mod ChannelMasks
pub mod Device
pub mod Devices
pub mod PartWrites
pub mod Printer
pub mod Reader
