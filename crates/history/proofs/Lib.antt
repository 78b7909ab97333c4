-- Demand 3, how long a lookup can take, and what clocks move (docs/PROOF.md says why they hold). Demand3, NewSlots, Corollaries, AfterEnds, Belt,
-- Attained, DoneSlots: the theorems; the folders: what they rest on.
pub mod Ties
pub mod EngineHalf
pub mod ChainHalf
pub mod CallsKeep
pub mod OverLists
pub mod Demand3
pub mod NewSlots
pub mod Corollaries
pub mod AfterEnds
pub mod Belt
pub mod Attained
pub mod DoneSlots
