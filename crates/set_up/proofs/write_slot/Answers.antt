-- A run of 0, and in it the links, are a slot's words.
use mathlib.Core.Path.{refl, ap}
use native.Mathlib.Omega.{arith}
use Rattle.model.specs.Layout.{chain_link_at, queue_link_at}
use Rattle.set_up.proofs.WrittenLaws.{store, inside, renamed}
use Rattle.set_up.specs.FreshWords.{free_words, fresh_slot_words}
use Rattle.set_up.proofs.write_slot.Goals as goal

pub returns : goal.returns
unfolding fresh_slot_words
returns c =
    renamed (inside queue_link_at (inside chain_link_at c.fill.ensures
    (store _ _ _) refl (omega arith))
    (store _ _ _) refl (omega arith)) (ap free_words c.link_after-link.ensures)
