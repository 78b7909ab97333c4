-- A legal memory holds the words of its state, which is well-formed.
pub mod Reading
pub mod Walked
pub mod Represent
pub mod LegalGenerations
pub mod LegalLanes
pub mod LegalTable
pub mod OfLegal
