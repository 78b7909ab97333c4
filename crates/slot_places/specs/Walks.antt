-- The walks of the slots that the code hands on: what it knows of the marks before, and what it has then.
use Rattle.std.specs.Prelude.{ℕ, ◌+◌, ◌≤◌, ◌≡◌, List, length, Option, Some, None}
use Rattle.model.specs.Lists.{last}
use Rattle.model.specs.Layout.{max_slots}
use Rattle.distinct_codes.specs.declared.slots.Slots.{Slots}
use Rattle.distinct_codes.specs.Cells.{spread, Held, clash, held, meets}
use Rattle.distinct_codes.specs.Met.{code_of, Room}
use Rattle.slot_places.specs.declared.queue.Walked.{Walked}
use Rattle.slot_places.specs.declared.slots.Queued.{Queued}
use Rattle.slot_places.specs.WalkSteps.{Step, spoilt, painted, run, slots_of, unmarked, chain_steps, link_steps, queue_steps, lane_steps}

module _ (t : Slots) where
  -- chain k; a queue's slots, and the queue, whose words stand at a; the queues of a lane
  abbrev pub chain_of : ℕ → List Step
  chain_of = chain_steps t.memory.now t.base t.count

  abbrev pub links_of : Queued → ℕ → List Step
  links_of = link_steps t.memory.now t.base t.count

  abbrev pub queue_of : Queued → ℕ → List Step
  queue_of = queue_steps t.memory.now t.base t.count

  abbrev pub lane_of : ℕ → List Step
  lane_of = lane_steps t.memory.now t.base t.count

  -- there are marks for the slots, and r of them have none
  pub record Counted (s : List ℕ) (r : ℕ) : Type 0 where
    pub few : t.count ≤ max_slots
    pub marks : t.count ≤ length s
    pub left : r ≡ unmarked t.count s

  -- the steps turn the marks s into u, with so many slots unmarked; or they are spoilt
  pub data Runs (ps : List Step) (s : List ℕ) : Option ℕ → List ℕ → Type 0 where
    spoils : {u : List ℕ} → run ps s ≡ spoilt → Runs ps s None u
    passes : {left : ℕ} {u : List ℕ} → run ps s ≡ painted u → Counted u left → Runs ps s (Some left) u

  -- and of a walk, before which as many slots as `all` had no mark, the last slot is told
  pub data Walks (ps : List Step) (s : List ℕ) (all : ℕ) : Option Walked → List ℕ → Type 0 where
    spoils : {u : List ℕ} → run ps s ≡ spoilt → Walks ps s all None u
    passes : {w : Walked} {u : List ℕ} → run ps s ≡ painted u → Counted u w.left → w.last ≡ last (slots_of ps) → length (slots_of ps) + w.left ≡ all
        → Walks ps s all (Some w) u

  -- no more slots are put aside than were met
  pub record Ready (R : ℕ) (k a : List ℕ) (left : ℕ) : Type 0 where
    pub room : Room t R k a
    pub most : length a + left ≤ t.count

  -- the same of steps whose slots are entered by their codes into R cells k, with a put aside: they are l and b then
  module _ (R : ℕ) where
    abbrev pub enters_all : List Step → List ℕ → List ℕ → Held
    enters_all ps k a = meets (code_of t) (spread R) (slots_of ps) (held k a)

    pub data Enters (ps : List Step) (s k a : List ℕ) : Option ℕ → List ℕ → List ℕ → List ℕ → Type 0 where
      spoils : {u l b : List ℕ} → run ps s ≡ spoilt → Enters ps s k a None u l b
      repeats : {u l b : List ℕ} → enters_all ps k a ≡ clash → Enters ps s k a None u l b
      passes : {left : ℕ} {u l b : List ℕ} → run ps s ≡ painted u → enters_all ps k a ≡ held l b → Counted u left → Ready R l b left
          → Enters ps s k a (Some left) u l b
