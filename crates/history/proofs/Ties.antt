-- What ties a state to the ledger: the two halves, and the invariant made of them.
pub mod Halves
pub mod Invariant
