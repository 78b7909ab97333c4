-- The sentences of legality and the record of its facts, both ways.
pub mod Ranges
pub mod Facts
pub mod FactsSaid
pub mod SentencesHold
pub mod Split
