mod Examples
pub mod KeyLemmas
pub mod StampLemmas
pub mod SoloLemmas
pub mod OpeningLemmas
pub mod RowLemmas
pub mod MemberLemmas
pub mod SkipLemmas
pub mod TableLemmas
pub mod SearchLemmas
pub mod TableOpening
pub mod BookLemmas
pub mod StoryLemmas
pub mod Visits
pub mod Calls
pub mod Epochs
pub mod SeatLemmas
pub mod ProfileLemmas
