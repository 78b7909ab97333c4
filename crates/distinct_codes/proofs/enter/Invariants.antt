-- The loop's invariant: the code is on its `Way`, in cell p, which holds v. The measure: the cells left.
use Prim.Native.Nat.{ℕ, ◌+◌, ◌*◌, ◌-◌, ◌<◌, ◌≤◌}
use mathlib.Core.Path.{◌≡◌}
use lib.ListN.{get_or}
use Rattle.distinct_codes.specs.Met.{code_of}
use Rattle.distinct_codes.specs.Tree.{branches}
use Rattle.distinct_codes.proofs.TreeLaws.{Way}
use Rattle.distinct_codes.proofs.enter.Given as goal

abbrev pub invariant-loop-v : goal.invariant-loop-v
invariant-loop-v g l =
    (l.code ≡ code_of l.slots (get_or l.aside l.i 0))
    × (l.v ≡ get_or l.cells l.p 0)
    × (l.p < g.row.CELLS + branches * l.i)
    × (l.v ≤ l.i)
    × Way g.row.CELLS (λ (t : ℕ). code_of l.slots (get_or l.aside t 0)) l.i l.cells l.p l.digits

abbrev pub decreases-loop-v : goal.decreases-loop-v
decreases-loop-v g l = g.row.CELLS + branches * l.i - l.p
