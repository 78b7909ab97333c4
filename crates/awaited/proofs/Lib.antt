-- The four counts of awaited: the pending lanes by their masks, the slots of the queues by their lengths, and the answer made of them.
pub mod AwaitedAnswer
pub mod OwnerLengths
pub mod Pending
