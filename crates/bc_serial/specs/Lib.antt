pub mod Keyslots
pub mod Standing
pub mod InTurn
