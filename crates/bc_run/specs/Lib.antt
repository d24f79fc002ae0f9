pub mod Words
pub mod Command
pub mod Making
pub mod Statuses
pub mod Laws
pub mod Stages
