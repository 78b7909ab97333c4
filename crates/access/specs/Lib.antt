-- The calls: what each promises, and what the tests that every call makes say.
pub mod Causes
pub mod Contract
pub mod Flags
pub mod Lanes
pub mod TableSizes
