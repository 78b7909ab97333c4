-- Stores against changes of the state: each word-level function of queues, chains, slots and lanes, as a change of the state that the words hold.
pub mod Shows
pub mod Shape
pub mod Puts
pub mod OfQueues
pub mod OfChains
pub mod OfCalls
pub mod OfLanes
pub mod OfOwners
