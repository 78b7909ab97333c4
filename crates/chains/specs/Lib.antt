-- What the contracts of `chains` cite, and which slots the words of a chain stand for.
pub mod Chain
pub mod Outcome
pub mod Chained
