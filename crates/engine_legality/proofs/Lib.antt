-- Laws on plain lists and numbers, for the proofs of this crate and of `legality`, from the parts to the whole: the loops; the contents; a lane, then
-- the engine.
mod LaneLoops
pub mod ContentsLaws
mod LaneTests
pub mod EngineLaws
mod RangeLaws
