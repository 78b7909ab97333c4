-- The queues of one owner: advance, and off.
pub mod Owners
pub mod HandOver
