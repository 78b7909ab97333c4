-- What the contracts of `updates` cite: the stores that its calls share.
pub mod UpdateStores
