-- Documents 01 and 02 as definitions, to be read in this order: each module uses only those above it.
pub mod Word
pub mod Lists
pub mod State
pub mod Layout
pub mod Digits
pub mod CheckDigit
pub mod Engine
pub mod Table
pub mod Rules
pub mod Memory
pub mod Labels
pub mod Legal
pub mod Calls
pub mod Ledger
