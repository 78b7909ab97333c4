-- What the listing program prints, and what its functions ensure.
pub mod Output
pub mod ProgramContract
