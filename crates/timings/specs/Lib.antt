-- How long lookups take: lists of calls, computed by the definitions of `model`.
pub mod Timings
