pub mod SectionDone
pub mod OrderedHolds
pub mod ThreadWork
pub mod ClosedOrders
pub mod ComposedRun
