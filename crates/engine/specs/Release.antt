-- What the release of a lane does to the words of a memory with a table of sizes z: the lane l drops its snapshot and its bit. No legality is needed.
use Rattle.std.specs.Prelude.{ℕ, ◌+◌, Bool, cond, List, eqb}
use Rattle.model.specs.State.{Sizes}
use Rattle.model.specs.Layout.{yard_mask_at, masks_at}
use Rattle.model.specs.Memory.{at, flag}
use Rattle.mask_tree.specs.Tree.{cleared_up}
use Rattle.lanes.specs.declared.Place.{Place}
use Rattle.lanes.specs.Record.{dropped_record}
use Rattle.lanes.specs.RecordChanges.{changed_at}
use Rattle.engine.specs.Levels.{rungs}
use Rattle.engine.specs.Period.{ended_words}

-- if no lane is awaited any more, the period ends
unfoldable pub over_words : List ℕ → Sizes → List ℕ
over_words m z = cond (eqb (at m yard_mask_at) 0) (ended_words m z) m

-- the lane's bit is set
abbrev pub pending_in : List ℕ → Place → Bool
pending_in m l = flag l.place (at m (masks_at + l.cabinet))

-- the lane's bit goes, its cabinet's with the last of the cabinet, and its yard's with the last of the yard
unfoldable pub cleared_words : List ℕ → Sizes → Place → List ℕ
cleared_words m z l = cleared_up m (rungs z l)

-- the lane's bit goes if it is set, and the period ends if it was the last
unfoldable pub passed_words : List ℕ → Sizes → Place → List ℕ
passed_words m z l = cond (pending_in m l) (over_words (cleared_words m z l) z) m

-- the lane drops its snapshot too
unfoldable pub released_words : List ℕ → Sizes → Place → List ℕ
released_words m z l = passed_words (changed_at m l.address dropped_record) z l
