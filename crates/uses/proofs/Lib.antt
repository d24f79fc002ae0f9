pub mod Tallies
pub mod DataUnits
pub mod Disks
pub mod SlotLemmas
