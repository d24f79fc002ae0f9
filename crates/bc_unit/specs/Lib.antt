pub mod Unit
pub mod PrintedText
