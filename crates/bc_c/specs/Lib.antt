pub mod Status
pub mod Units
