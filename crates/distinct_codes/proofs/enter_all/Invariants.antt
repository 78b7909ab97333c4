-- The loop's invariant: the numbers below i stand in the cells and have different codes.
use Prim.Native.Nat.{ℕ}
use lib.ListN.{get_or, length}
use Rattle.distinct_codes.specs.Met.{code_of}
use Rattle.distinct_codes.proofs.TreeLaws.{Sofar}
use Rattle.distinct_codes.proofs.enter_all.Given as goal

abbrev pub invariant-loop-i : goal.invariant-loop-i
invariant-loop-i g l = Sofar g.row.CELLS (length l.initial.cells) (λ (t : ℕ). code_of l.slots (get_or l.aside t 0)) l.i l.cells
