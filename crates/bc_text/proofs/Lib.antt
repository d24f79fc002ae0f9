pub mod Decimals
pub mod Splits
pub mod LineLaws
pub mod HexTexts
pub mod Left
pub mod FieldLaws
pub mod Sorts
pub mod Printing
