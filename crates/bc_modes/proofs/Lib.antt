pub mod Doubling
pub mod LaneBytes
pub mod Blocks
pub mod Along
pub mod Pieces
pub mod Links
pub mod Unchained
pub mod Bytes
pub mod CipherLengths
pub mod UnitLaws
pub mod EssivLaws
pub mod EntryLaws
mod EntryExamples
mod Examples
pub mod Masks
