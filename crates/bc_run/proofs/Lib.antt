pub mod Given
pub mod Texts
pub mod Complete
pub mod Ends
pub mod MakeWords
pub mod MakeEnds
pub mod MakeLines
