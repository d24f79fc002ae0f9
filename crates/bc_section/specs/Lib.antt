pub mod Uses
pub mod Sections
pub mod SectionProgress
pub mod Openings
