-- Add, replace, delete and hand-back, from their stores to the state after them.
pub mod AddWords
pub mod DeleteWords
pub mod UpdateWords
pub mod CallSteps
