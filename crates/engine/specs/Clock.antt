-- What the clock of the lane l does to the words of a memory with a table of sizes z. No legality is needed.
use Rattle.std.specs.Prelude.{ℕ, Bool, not, cond, ◌&&◌, List}
use Rattle.model.specs.State.{Sizes}
use Rattle.lanes.specs.declared.Place.{Place}
use Rattle.lanes.specs.Record.{sampled_record}
use Rattle.lanes.specs.Record.{record_at, is_holding, moved_on}
use Rattle.lanes.specs.RecordChanges.{changed_at}
use Rattle.engine.specs.Release.{pending_in, released_words}
use Rattle.engine.specs.Advance.{of_lane, of_all, advanced_words}

-- a lane that went through a quiescent state since its snapshot is released
unfoldable pub compared_words : List ℕ → Sizes → Place → List ℕ
compared_words m z l = cond (moved_on (record_at m l.address)) (released_words m z l) m

module _ (m : List ℕ) (l : Place) where
  -- the lane's bit is set, and it holds no snapshot
  abbrev pub unsampled_in : Bool
  unsampled_in = pending_in m l && not (is_holding (record_at m l.address))

  -- then its counts are copied
  unfoldable pub sample_words : List ℕ
  sample_words = cond unsampled_in (changed_at m l.address sampled_record) m

-- compare, advance the lane, advance the global queues, copy
unfoldable pub clock_words : List ℕ → Sizes → Place → List ℕ
clock_words m z l = sample_words (advanced_words (advanced_words (compared_words m z l) z (of_lane l)) z of_all) l
