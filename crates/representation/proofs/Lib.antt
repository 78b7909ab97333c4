-- Legal memories and well-formed states are one to one, and each call keeps them so (Round, MemoryCalls, Memories: the theorems).
pub mod ExtraWords
pub mod WellFormed
pub mod Discipline
pub mod Causes
pub mod Sentences
pub mod Addresses
pub mod FromMemory
pub mod FromState
pub mod CallsWellFormed
pub mod Round
pub mod MemoryCalls
pub mod Memories
