-- What the contracts of `masks` cite.
pub mod Bits
