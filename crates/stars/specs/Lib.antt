-- The cases that document 01 marks with a star and those of document 02's requests: one table that the definitions of `model` compute.
pub mod Stars
