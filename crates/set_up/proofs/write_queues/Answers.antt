-- A run of none, and in it the lengths, are the words of three queues.
use Prim.Native.Nat.{◌+◌}
use mathlib.Core.Path.{refl}
use native.Mathlib.Omega.{arith}
use Rattle.model.specs.Lists.{first, last}
use Rattle.model.specs.Layout.{length_offset, current_offset, done_offset}
use Rattle.set_up.specs.FreshWords.{empty_queues}
use Rattle.set_up.proofs.WrittenLaws.{store, inside, renamed}
use Rattle.set_up.proofs.write_queues.Goals as goal

pub returns : goal.returns
unfolding empty_queues first last
returns c =
    renamed (inside (done_offset + length_offset) (inside (current_offset + length_offset) (inside length_offset c.fill.ensures
    (store _ _ _) refl (omega arith))
    (store _ _ _) (omega arith) (omega arith))
    (store _ _ _) (omega arith) (omega arith)) refl
