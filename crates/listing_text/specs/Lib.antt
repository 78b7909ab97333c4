pub mod Number
pub mod Call
pub mod Answer
pub mod Padded
pub mod Machine
pub mod Arguments
pub mod LineReading
