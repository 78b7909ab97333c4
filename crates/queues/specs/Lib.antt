-- What the contracts of `queues` cite.
pub mod Queue
