-- Nothing is taken of an empty queue, and nothing written; else the product is written where the slot stands.
use Rattle.std.proofs.Common.{sym}
use Rattle.updates.proofs.Adds.{none-filled, slot-filled}
use Rattle.updates.proofs.fill.Goals as goal

pub returns-in_err-slot : goal.returns-in_err-slot
returns-in_err-slot c = none-filled _ _ _ _ _ _ c.take_first.ensures (sym c.in_err-slot.ensures.value) c.from_residual.ensures

pub returns : goal.returns
returns c = slot-filled _ _ _ _ _ _ _ c.take_first.ensures (sym c.in_ok-slot.ensures.value) c.write_product.ensures
