-- The ways out of clock and off, and the slots that a clock moves.
pub mod OtherLanes
pub mod MovedLaws
pub mod TickLaws
