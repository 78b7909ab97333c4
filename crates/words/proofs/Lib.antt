-- What is lent stays lent: a store and a call keep the length of a memory.
pub mod LentLaws
