-- What the code of grace periods does to the words of a memory with a table of sizes z. No legality is needed.
use Rattle.std.specs.Prelude.{ℕ, zero, suc, ◌+◌, cond, List, set, eqb}
use Rattle.model.specs.Word.{up, later}
use Rattle.model.specs.State.{Sizes, cabinet_count}
use Rattle.model.specs.Layout.{current_generation_at, largest_generation_at, yard_mask_at, masks_at}
use Rattle.model.specs.Memory.{at}
use Rattle.mask_tree.specs.Tree.{raised_up}
use Rattle.lanes.specs.Cabinet.{online_mask}
use Rattle.engine.specs.Levels.{lane_level, upper_levels}

-- ---- begin period

module _ (m : List ℕ) (z : Sizes) where
  -- the first n lane masks become those of the lanes that are on
  unfoldable pub masks_set : ℕ → List ℕ
  masks_set zero = m
  masks_set (suc n) = set (masks_set n) (masks_at + n) (online_mask m z n)

  -- all lane masks, and by them the masks above
  unfoldable pub started_words : List ℕ
  started_words = raised_up (masks_set (cabinet_count z)) (lane_level z) (upper_levels z)

-- ---- end period, and request

-- the current generation goes up; if the largest requested is not earlier, a period begins
unfoldable pub ended_words : List ℕ → Sizes → List ℕ
ended_words m z =
    let g = up (at m current_generation_at) in
    cond (later g (at m largest_generation_at)) (set m current_generation_at g) (started_words (set m current_generation_at g) z)

-- the largest requested becomes g if g is later
unfoldable pub raised_words : List ℕ → ℕ → List ℕ
raised_words m g = cond (later g (at m largest_generation_at)) (set m largest_generation_at g) m

-- the largest requested is raised; if no period runs, one begins
unfoldable pub requested_words : List ℕ → Sizes → ℕ → List ℕ
requested_words m z g = cond (eqb (at m yard_mask_at) 0) (started_words (raised_words m g) z) (raised_words m g)
