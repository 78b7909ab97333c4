-- The lane record, how it stands in the words of a memory, what the rules do to it, and a cabinet's part.
pub mod Record
pub mod RecordChanges
pub mod Cabinet
pub mod Kinds
