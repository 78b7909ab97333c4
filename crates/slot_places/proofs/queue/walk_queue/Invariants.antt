-- The loop's invariant: the slots from cur on lead where all lead, and their last and number are those of all (`Queueing`). The measure: the slots that have no mark.
use mathlib.Core.Path.{◌≡◌}
use lib.ListN.{length}
use Rattle.slot_places.proofs.QueueLaws.{Queueing}
use Rattle.slot_places.proofs.queue.walk_queue.Given as goal

abbrev pub invariant-loop-cur : goal.invariant-loop-cur
invariant-loop-cur l = Queueing l.slots l.queued l.at l.initial.marks l.left l.cur l.marks l.last l.rest × (length l.marks ≡ length l.initial.marks)

abbrev pub decreases-loop-cur : goal.decreases-loop-cur
decreases-loop-cur l = l.rest
