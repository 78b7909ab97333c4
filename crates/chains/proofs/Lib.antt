-- Laws of searches, of the chain links of all slots, and of the outcome of a step.
mod Swaps
pub mod SeekLaws
pub mod AllChains
pub mod OutcomeLaws
