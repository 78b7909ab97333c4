-- Over a list of calls, by induction: the events before one, and what the invariant says of an answer.
pub mod Answers
pub mod Instants
pub mod OneEach
pub mod Stands
pub mod ListInvariant
pub mod OneSection
pub mod Counted
pub mod OneList
