use Rattle.set_up.proofs.WrittenLaws.{no-rows, next-row}
use Rattle.set_up.proofs.FreshLaws.{length-slot}
use Rattle.model.specs.Layout.{slot_length}
use Rattle.set_up.specs.FreshWords.{fresh_slot_words}
use Rattle.set_up.proofs.write_slots.Goals as goal

pub loop-i-init : goal.loop-i-init
loop-i-init c = no-rows _ _ _

pub loop-i-preserved : goal.loop-i-preserved
loop-i-preserved c = next-row (fresh_slot_words c.args.z.slots) slot_length _ (length-slot c.args.z.slots) c.loop-i.invariant c.slot_address.ensures c.write_slot.ensures
