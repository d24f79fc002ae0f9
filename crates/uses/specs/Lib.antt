pub mod Tallies
pub mod Disks
pub mod Keyslots
