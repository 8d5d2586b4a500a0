pub mod Padding
pub mod Unwatching
pub mod WatchCodes
pub mod WriteLists
