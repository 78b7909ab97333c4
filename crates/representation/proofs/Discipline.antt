-- The engine's half of a call: what it leaves as it was, and the discipline of generations.
pub mod Frame
pub mod Requests
pub mod Ages
pub mod Advances
pub mod Releases
pub mod GenerationsKept
pub mod Done
