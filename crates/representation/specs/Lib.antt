-- What the contracts of the calls cite of a memory.
pub mod Sound
