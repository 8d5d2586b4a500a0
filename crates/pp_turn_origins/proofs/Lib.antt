pub mod Deciding
pub mod DeviceOrigins
pub mod InRange
pub mod Parts
pub mod Told
pub mod TurnOrigins
pub mod WholeTurn
