-- `WrittenLaws` for runs of words, `FreshLaws` for the words of a fresh table, `SetUpLaws` for the ways out of set-up.
mod WrittenLaws
mod FreshLaws
pub mod SetUpLaws
