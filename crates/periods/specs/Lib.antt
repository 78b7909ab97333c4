-- What the contracts of clock and off cite.
pub mod Others
pub mod Ticks
