-- The lengths of an owner's queues, by the words of a memory, and what is asked of them to add them up.
use Rattle.std.specs.Prelude.{ℕ, ◌+◌, ◌*◌, ◌≤◌, List, length}
use Rattle.model.specs.State.{State}
use Rattle.model.specs.Layout.{max_slots, length_offset, current_offset, done_offset, queues_width}
use Rattle.model.specs.Rules.{queued, queued_in}
use Rattle.model.specs.Memory.{at}

-- the slots of an owner's queues, whose words stand from a on
abbrev pub owner_length : List ℕ → ℕ → ℕ
owner_length m a = at m (a + length_offset) + at m (a + (current_offset + length_offset)) + at m (a + (done_offset + length_offset))

-- the slots in the queues but the free one
abbrev pub retired_length : State → ℕ
retired_length s = queued s.engine.global + queued_in s.engine.lanes

-- the most slots that next, current and done can have, each for itself
abbrev pub owner_most : ℕ
owner_most = 3 * max_slots

-- the queues with their words from e on have no more slots than that
pub record OwnerAt (m : List ℕ) (e : ℕ) : Type 0 where
  pub inside : e + queues_width ≤ length m
  pub few : owner_length m e ≤ owner_most
