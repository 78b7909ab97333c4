-- Nothing is taken of an empty queue, and nothing written; else the slot is cleared, and appended.
use Rattle.std.proofs.Common.{sym}
use Rattle.updates.proofs.HandBacks.{none-reclaimed, slot-reclaimed}
use Rattle.updates.proofs.reclaim.Goals as goal

pub returns-in_err-slot : goal.returns-in_err-slot
returns-in_err-slot c = none-reclaimed _ _ _ _ _ _ c.take_first.ensures (sym c.in_err-slot.ensures.value) c.from_residual.ensures

pub returns : goal.returns
returns c = slot-reclaimed _ _ _ _ _ _ _ _ c.take_first.ensures (sym c.in_ok-slot.ensures.value) c.clear_slot.ensures c.append.ensures
