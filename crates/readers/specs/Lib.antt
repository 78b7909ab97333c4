-- What the contracts of the readers cite: a lookup in its words, and its steps.
pub mod Lookups
