-- `WalkStepLaws` for the marks and a walk on its way, `ChainLaws` and `QueueLaws` for the functions that walk and those that call several; `Marked` for
-- what the marks say, `Places` for steps joined from parts.
pub mod WalkStepLaws
pub mod ChainLaws
pub mod QueueLaws
pub mod Marked
pub mod Places
