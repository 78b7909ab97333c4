-- Digits and weighted sums, what a check digit is worth, and what the loop over a code's digits knows.
pub mod Digits
pub mod Weights
pub mod Caught
pub mod EntryRefused
mod AddingLaws
