-- What awaited counts: the pending lanes and the lowest of them, and the slots of the queues.
pub mod Lowest
pub mod Lengths
