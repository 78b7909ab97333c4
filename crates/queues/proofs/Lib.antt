-- Laws of the queue links of all slots.
pub mod AllQueues
