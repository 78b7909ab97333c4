-- The numbers of causes, the ways out of a call, what is known of its lane and of that lane's flags, and how any list of causes is read off a function's
-- tests.
pub mod Numbers
pub mod Ways
pub mod LaneLaws
pub mod FlagLaws
pub mod Refusals
pub mod TableReads
