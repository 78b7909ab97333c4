-- The loop's invariant: the slots from cur on lead where all lead (`Chaining`). The measure: the slots that have no mark, of which each turn marks one.
use mathlib.Core.Path.{◌≡◌}
use lib.ListN.{length}
use Rattle.slot_places.proofs.ChainLaws.{Chaining}
use Rattle.slot_places.proofs.chain.walk_chain.Given as goal

abbrev pub invariant-loop-cur : goal.invariant-loop-cur
invariant-loop-cur g l =
    Chaining l.slots g.row.CELLS l.k l.initial.marks l.initial.codes.cells l.initial.codes.aside.items l.cur l.marks l.codes.cells l.codes.aside.items l.rest
    × (length l.marks ≡ length l.initial.marks)

abbrev pub decreases-loop-cur : goal.decreases-loop-cur
decreases-loop-cur g l = l.rest
