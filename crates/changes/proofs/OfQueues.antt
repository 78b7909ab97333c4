-- Queues by name: their places, ends and links, and what each change of a queue stores.
pub mod QueuePlaces
pub mod QueueStates
pub mod QueueEnds
pub mod QueueFields
pub mod QueueChanges
pub mod QueueTakes
pub mod QueueJoins
pub mod QueueShapes
