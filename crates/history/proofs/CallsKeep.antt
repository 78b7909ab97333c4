-- A fresh state has the invariant, and every call keeps it.
pub mod SlotFacts
pub mod Respects
pub mod Unseen
pub mod Sections
pub mod LookupSteps
pub mod StartStep
pub mod Entries
pub mod Add
pub mod Retire
pub mod Removed
pub mod Remove
pub mod Reclaim
pub mod EveryCall
pub mod Lookups
pub mod Runs
pub mod Start
