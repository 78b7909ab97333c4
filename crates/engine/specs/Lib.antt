-- What the contracts of the engine cite: the words after each of its functions.
pub mod Levels
pub mod Period
pub mod Release
pub mod Advance
pub mod Off
pub mod Clock
