-- The words after a change of a lane's record.
use Rattle.std.specs.Prelude.{◌≡◌, ℕ, List}
use Rattle.lanes.specs.declared.LaneRecord.{LaneRecord}
use Rattle.lanes.specs.Record.{record_at, record_stored}

-- the record from a on is changed; all other words stay
abbrev pub changed_at : List ℕ → ℕ → (LaneRecord → LaneRecord) → List ℕ
changed_at m a f = record_stored m a (f (record_at m a))

-- n is m after a change of that record to one that `gives` says
pub record Changed (gives : LaneRecord → LaneRecord → Type 0) (m : List ℕ) (a : ℕ) (n : List ℕ) : Type 0 where
  pub record_after : LaneRecord
  pub given : gives (record_at m a) record_after
  pub stored : n ≡ record_stored m a record_after
