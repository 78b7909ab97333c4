-- The engine's words, a lane's own words, its record as the code changes it, and the calls that change them alone.
pub mod EngineWords
pub mod OneLane
pub mod LaneWords
pub mod LaneRecords
pub mod LaneCalls
