-- A well-formed state's words are legal, and read back as the state.
pub mod Standing
pub mod Periods
pub mod Awaited
pub mod RereadQueues
pub mod RereadLanes
pub mod Reread
pub mod LawfulGenerations
pub mod LawfulLanes
pub mod Lawful
pub mod Worded
