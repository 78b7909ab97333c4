-- Calls keep a state well-formed.
pub mod EngineFields
pub mod EngineGenerations
pub mod Tables
pub mod TableGifts
pub mod NextLanes
pub mod NextTables
pub mod Next
pub mod Fresh
