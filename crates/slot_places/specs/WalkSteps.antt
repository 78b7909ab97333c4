-- The walks along the links as lists of steps, each of which marks a slot that has no mark, or checks something. Clients cite `walks` and what is
-- made of it.
use Rattle.std.specs.Prelude.{ℕ, zero, suc, ◌+◌, ◌*◌, Bool, true, false, cond, List, [], ◌∷◌, ◌++◌, get_or, set, length, leb, eqb}
use Rattle.model.specs.Word.{none}
use Rattle.model.specs.Lists.{last}
use Rattle.model.specs.Layout.{heads_at, last_offset, length_offset, queue_width, queues_at, slot_length, chain_link_at, queue_link_at}
use Rattle.model.specs.Memory.{at}
use Rattle.words.specs.Links.{slot_or_none}
use Rattle.slot_places.specs.declared.slots.Queued.{Queued}
use Rattle.slot_places.specs.declared.slots.Queued.TheVariants.{Retired}
use Rattle.slot_places.specs.Slots.{chained_fits, queued_fits}

-- ---- steps

pub data Step : Type 0 where
  put : ℕ → Step
  check : Bool → Step

pub data Outcome : Type 0 where
  spoilt : Outcome
  painted : List ℕ → Outcome

-- the mark of a slot that was met; 0 is that of one that was not
abbrev pub met : ℕ
met = 1

-- the marks after the steps, where each slot was new and each check held
unfoldable pub run : List Step → List ℕ → Outcome
run [] s = painted s
run (put i ∷ ps) s = elim (eqb (get_or s i 0) 0) [ true ↦ run ps (set s i met) | false ↦ spoilt ]
run (check b ∷ ps) s = elim b [ true ↦ run ps s | false ↦ spoilt ]

-- the slots that they mark
unfoldable pub slots_of : List Step → List ℕ
slots_of [] = []
slots_of (put i ∷ ps) = i ∷ slots_of ps
slots_of (check b ∷ ps) = slots_of ps

-- the steps g at a, a + d, ..; n of them
module _ (g : ℕ → List Step) (d : ℕ) where
  unfoldable pub several : ℕ → ℕ → List Step
  several a zero = []
  several a (suc n) = g a ++ several (a + d) n

-- ---- a walk

-- the slots from i on by their links, slot 0's at field: each is new and fits, and the last link is none. A walk meets fewer than n slots or one
-- of them twice, so that what stands after n is of no account.
module _ (m : List ℕ) (field slots : ℕ) (fits : ℕ → Bool) where
  unfoldable pub walks : ℕ → ℕ → List Step
  walks i zero = check (slot_or_none slots i) ∷ []
  walks i (suc n) = elim (leb slots i) [ true ↦ check (eqb i none) ∷ [] | false ↦ put i ∷ check (fits i) ∷ walks (at m (field + slot_length * i)) n ]

-- ---- the places of a memory, slot 0's words beginning at base

-- the queues of a lane, and the global ones
abbrev pub queue_count : ℕ
queue_count = 3

module _ (m : List ℕ) (base slots : ℕ) where
  -- chain k
  abbrev pub chain_steps : ℕ → List Step
  chain_steps k = walks m (base + chain_link_at) slots (chained_fits m base k) (at m (heads_at + k)) (slots + 1)

  -- the slots of the queue whose words stand at a, free or retired ones
  abbrev pub link_steps : Queued → ℕ → List Step
  link_steps kind a = walks m (base + queue_link_at) slots (queued_fits m base slots kind) (at m a) (slots + 1)

  -- its last and its length are those given, xs being its slots
  abbrev pub end_steps : ℕ → List ℕ → List Step
  end_steps a xs = check (eqb (last xs) (at m (a + last_offset))) ∷ check (eqb (length xs) (at m (a + length_offset))) ∷ []

  -- the queue
  abbrev pub queue_steps : Queued → ℕ → List Step
  queue_steps kind a = link_steps kind a ++ end_steps a (slots_of (link_steps kind a))

  -- next, current and done
  abbrev pub retired_steps : ℕ → List Step
  retired_steps a = several (queue_steps Retired) queue_width a queue_count

  -- those of the lane whose words begin at a
  abbrev pub lane_steps : ℕ → List Step
  lane_steps a = retired_steps (a + queues_at)

-- ---- the marks

-- how many of the first n slots have no mark
unfoldable pub unmarked : ℕ → List ℕ → ℕ
unmarked zero s = 0
unmarked (suc n) s = cond (eqb (get_or s n 0) 0) 1 0 + unmarked n s
