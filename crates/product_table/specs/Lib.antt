-- What a call for C leaves behind.
pub mod Called
