-- Demands: the three demands of document 01 on the calls for C, a statement each. Proved: each holds. Runs: what its proof needs of calls made one
-- after another. Labels: what document 02 asks of the two functions that have no memory, and that it holds. Ends: what it asks of end, and that it
-- holds. Belt: how long a lookup can take, and that it holds. Done: what the clocks' fourth numbers add up to, and that it holds.
pub mod Demands
pub mod Runs
pub mod Proved
pub mod Labels
pub mod Ends
pub mod Belt
pub mod Done
