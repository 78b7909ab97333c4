-- The loop's invariant: what the queues of the lanes from the i-th on give is what all give.
use mathlib.Core.Path.{◌≡◌}
use lib.ListN.{length}
use Rattle.model.specs.Layout.{lane_length}
use Rattle.slot_places.specs.Walks.{lane_of, Counted}
use Rattle.slot_places.proofs.QueueLaws.{Rest}
use Rattle.slot_places.proofs.queue.lane_queues.Given as goal

abbrev pub invariant-loop-i : goal.invariant-loop-i
invariant-loop-i l =
    Counted l.slots l.marks l.rest
    × Rest l.slots (lane_of l.slots) lane_length l.first l.n l.initial.marks l.i l.marks
    × (length l.marks ≡ length l.initial.marks)
