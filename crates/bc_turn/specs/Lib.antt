pub mod Note
pub mod Turning
pub mod PassParts
