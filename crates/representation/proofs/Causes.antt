-- The table's half, and what is known of a call that no cause refuses.
pub mod Searches
pub mod SlotCounts
pub mod Passed
pub mod Accepted
