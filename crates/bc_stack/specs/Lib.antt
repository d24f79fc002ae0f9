pub mod Devices
pub mod Targets
pub mod Pieces
