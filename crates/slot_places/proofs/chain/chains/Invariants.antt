-- The loop's invariant: what the chains from k on give is what all give.
use mathlib.Core.Path.{◌≡◌}
use lib.ListN.{length}
use Rattle.model.specs.Layout.{chain_count}
use Rattle.slot_places.specs.Walks.{chain_of, Counted, Ready}
use Rattle.slot_places.proofs.ChainLaws.{Rest}
use Rattle.slot_places.proofs.chain.chains.Given as goal

abbrev pub invariant-loop-k : goal.invariant-loop-k
invariant-loop-k g l =
    Counted l.slots l.marks l.left
    × Ready l.slots g.row.CELLS l.codes.cells l.codes.aside.items l.left
    × Rest l.slots g.row.CELLS (chain_of l.slots) 1 0 chain_count l.initial.marks l.initial.codes.cells l.initial.codes.aside.items l.k l.marks l.codes.cells l.codes.aside.items
    × (length l.marks ≡ length l.initial.marks)
