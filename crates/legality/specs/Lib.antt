-- What the functions of the check decide of the slots.
pub mod Parts
