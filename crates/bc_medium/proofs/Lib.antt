pub mod Orders
pub mod Chosen
pub mod Told
pub mod Quotas
pub mod Access
pub mod Openings
pub mod Ends
pub mod Growing
