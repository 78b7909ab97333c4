-- Traps, the ledger, damaged memories, the walk-throughs of document 000, and the largest table, each a table that the definitions of `model` compute.
pub mod Ledgers
pub mod Traps
pub mod Damaged
pub mod Replay
pub mod Yards
