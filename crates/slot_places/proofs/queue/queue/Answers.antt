-- The walk first, then the last, then the length.
use Rattle.slot_places.proofs.QueueLaws.{queue-bad, queue-wrong, queue-miscounted, queue-good}
use Rattle.slot_places.proofs.queue.queue.Goals as goal

pub returns-in_err-w : goal.returns-in_err-w
returns-in_err-w c = rw c.from_residual.ensures (queue-bad _ _ _ _ _ c.in_err-w.ensures)

pub returns-then-w-slots : goal.returns-then-w-slots
returns-then-w-slots c = queue-wrong _ _ _ _ _ _ _ c.in_ok-w.ensures c.if-w-slots.true

pub returns-then-left-w : goal.returns-then-left-w
returns-then-left-w c = queue-miscounted _ _ _ _ _ _ _ c.in_ok-w.ensures c.if-w-slots.false c.if-left-w.true

pub returns : goal.returns
returns c = queue-good _ _ _ _ _ _ _ c.in_ok-w.ensures c.if-w-slots.false c.if-left-w.false
