-- Runs of words that are written, and the words of a fresh table.
pub mod Written
pub mod FreshWords
