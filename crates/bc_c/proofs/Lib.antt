pub mod Loops
pub mod Calls
