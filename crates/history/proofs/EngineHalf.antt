-- The engine half of the invariant: a slot that waits for a lane is not done.
pub mod SafeQueues
pub mod Grace
pub mod GracePeriods
pub mod ClockKeeps
