-- The ways out of a call for C.
mod CalledLaws
