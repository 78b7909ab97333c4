-- One address for each field, and stores by fields.
pub mod Fields
pub mod Writes
pub mod MaskWords
