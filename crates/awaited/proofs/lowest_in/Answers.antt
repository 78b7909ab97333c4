-- The numbers of a mask's bits are words, and so is that of the lowest.
use native.Mathlib.Omega.{arith}
use Rattle.awaited.proofs.Pending.{lowest-few}
use Rattle.awaited.proofs.lowest_in.Goals as goal

pub overflow_add-result : goal.overflow_add-result
overflow_add-result c = omega (arith, lowest-few _ _ c.lowest-place.ensures)
