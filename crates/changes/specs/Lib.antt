-- What contracts and their definitions cite: queues by name, the search for a code.
pub mod Queues
pub mod Search
