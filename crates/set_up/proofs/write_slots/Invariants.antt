-- The loop's invariant: the records of the slots before this one are written.
use Rattle.model.specs.Layout.{slots_body}
use Rattle.words.specs.Lent.{sizes_of}
use Rattle.set_up.specs.Written.{Written, rows}
use Rattle.set_up.specs.FreshWords.{fresh_slot_words}
use Rattle.set_up.proofs.write_slots.Given as goal

abbrev pub invariant-loop-i : goal.invariant-loop-i
invariant-loop-i l = Written l.initial.m (slots_body (sizes_of l.z)) (rows (fresh_slot_words l.z.slots) l.i) l.m
