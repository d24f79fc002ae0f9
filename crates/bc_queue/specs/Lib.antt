pub mod Plugs
pub mod RequestUnits
pub mod Carrying
pub mod Queues
pub mod Laws
pub mod OrderOnly
