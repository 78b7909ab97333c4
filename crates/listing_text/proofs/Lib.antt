pub mod LineCases
pub mod NumberLaws
pub mod TextLaws
mod Bools
pub mod TakenLaws
pub mod MachineLaws
pub mod CommandLaws
pub mod DigitLaws
pub mod ArgumentLaws
pub mod LineLaws
pub mod BlockLaws
