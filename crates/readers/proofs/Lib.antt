-- Begin and on put one flag of a lane; start and step store its lookup, end both; pass counts in its record.
pub mod FlagCalls
pub mod LookupLaws
pub mod Leaving
pub mod StepLaws
pub mod Passes
