-- How a script of calls, and a label, is computed by the definitions of `model`.
pub mod Scripts
