-- A lane's lookup in its words, and what a step does to it: one that goes on moves to the next slot of its chain.
use Rattle.std.specs.Prelude.{ℕ, ◌+◌, ◌≡◌, true, List, Option, Some, None, set}
use Rattle.model.specs.State.{Lookup, idle, running, is_running}
use Rattle.model.specs.Layout.{lookup_at, position_at, lookup_bit}
use Rattle.model.specs.Table.{link_of}
use Rattle.model.specs.Rules.{lane_of, going, outcome}
use Rattle.model.specs.Memory.{at, low, high, lookup_code, lookup_position, state}
use Rattle.access.specs.declared.Lane.{Lane}
use Rattle.readers.specs.declared.Lookup as code
use Rattle.access.specs.Flags.{flag_put}
use Rattle.access.specs.Lanes.{LaneIn}

-- the lookup that the code hands on, none where none runs
abbrev pub lookup_of : Option code.Lookup → Lookup
lookup_of (Some l) = running l.code l.position
lookup_of None = idle

-- whether the lookup k runs, its code and its position in the record that begins at a; all other words stay
abbrev pub lookup_stored : List ℕ → ℕ → Lookup → List ℕ
lookup_stored m a k =
    set
    (set (set (flag_put m a lookup_bit (is_running k)) (a + lookup_at) (low (lookup_code k))) (a + lookup_at + 1) (high (lookup_code k)))
    (a + position_at)
    (lookup_position k)

-- a lane of a legal memory whose lookup is running
pub record Looking (m : List ℕ) (l : Lane) : Type 0 where
  pub lane : LaneIn m l
  pub running : is_running (lane_of (state m) l.number).lookup ≡ true

-- ---- a step

-- a lane of a legal memory whose lookup goes on
pub record Going (m : List ℕ) (l : Lane) : Type 0 where
  pub looking : Looking m l
  pub going : outcome (state m).table (lane_of (state m) l.number).lookup ≡ going

-- its lookup at the next slot of its chain
abbrev pub moved_on : List ℕ → Lane → List ℕ
moved_on m l = set m (l.address + position_at) (link_of (state m).table (at m (l.address + position_at)))
