-- A run of 0, and in it the words that are not 0, are a lane's words.
use mathlib.Core.Path.{refl}
use native.Mathlib.Omega.{arith}
use Rattle.model.specs.Lists.{first, last, mask, bit}
use Rattle.model.specs.State.{is_running, is_held}
use Rattle.model.specs.Layout.{flags_at, queues_at, position_at}
use Rattle.model.specs.Memory.{lane_words, flags, snapshot_count, lookup_code, lookup_position}
use Rattle.set_up.specs.FreshWords.{empty_queues, fresh_lane_words}
use Rattle.set_up.proofs.WrittenLaws.{store, inside, renamed}
use Rattle.set_up.proofs.write_lane.Goals as goal

pub returns : goal.returns
unfolding empty_queues fresh_lane_words lane_words flags mask bit snapshot_count lookup_code lookup_position first last is_running is_held
returns c =
    renamed (inside position_at (inside queues_at (inside flags_at c.fill.ensures
    (store _ _ _) (omega arith) (omega arith))
    c.write_queues.ensures refl (omega arith))
    (store _ _ _) refl (omega arith)) refl
