-- `Lent` has the sizes by value and what is lent for a table, `Links` what a link may be, `Contents` what the contents say of the sizes, `Sums` the sum of
-- words, `Flags` the bits of a lane's flags.
pub mod Lent
pub mod Links
pub mod Contents
pub mod Sums
pub mod Flags
pub mod Few
pub mod Sizing
