pub mod Printed
pub mod NoValue
pub mod Taken
pub mod Stuck
pub mod LineFields
pub mod Walks
pub mod Begun
pub mod Parsed
pub mod Same
pub mod Nothing
mod Examples
mod Finite
mod Journals
mod Busy
mod TwoDevices
mod Evicted
