-- Which change of the state the words after each function are: `Words` what the code's steps give, `Laws` the change of the state.

-- the masks as a tree
pub mod MaskLevels
-- grace periods: begin, end and request
pub mod PeriodWords
pub mod StartLaws
pub mod PeriodLaws
-- the release of a lane
pub mod ReleaseBits
pub mod ReleaseStores
pub mod ReleaseLaws
-- the advance of an owner
pub mod AdvanceSteps
pub mod AdvanceTests
pub mod AdvanceLaws
-- a lane that goes off
pub mod OffSteps
pub mod OffLaws
-- the clock of a lane
pub mod CompareLaws
pub mod SampleLaws
pub mod ClockSteps
pub mod ClockLaws
