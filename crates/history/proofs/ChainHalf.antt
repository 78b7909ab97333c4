-- The chain half: a lookup answers what a whole search answers at an instant since its start.
pub mod ChainStretches
pub mod Trail
pub mod TrailLeaves
