pub mod Outcomes
pub mod PreparedBios
pub mod Demand
pub mod Quotas
pub mod Plugging
pub mod SharedDevice
pub mod Jobs
pub mod Runs
