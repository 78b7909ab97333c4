-- What the fourth numbers of clocks add up to (document 02, request 6), a table that the definitions of `model` compute.
pub mod Tallies
