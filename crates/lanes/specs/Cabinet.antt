-- One cabinet's lanes: the part of the lane body that holds their records, one after another (document 01, "The memory").
use Rattle.std.specs.Prelude.{◌≡◌, ℕ, ◌+◌, ◌*◌, ◌/◌, ◌%◌, ◌<◌, ◌≤◌, Bool, List, map, length}
use Rattle.model.specs.Lists.{from, mask}
use Rattle.model.specs.State.{Sizes, cabinet_count}
use Rattle.model.specs.Layout.{lane_length, lane_address, online_bit}
use Rattle.model.specs.Memory.{at, flag}
use Rattle.words.specs.Lent.{Lent}
use Rattle.lanes.specs.declared.Place.{Place}

-- where the record of place p begins in its cabinet's part
abbrev pub place_at : ℕ → ℕ
place_at p = lane_length * p

-- where the part of cabinet c begins
abbrev pub cabinet_at : Sizes → ℕ → ℕ
cabinet_at z c = lane_address z (c * z.places)

-- the lane at place p of cabinet c
abbrev pub stand : Sizes → ℕ → ℕ → Place
stand z c p = record {
  yard = c / z.cabinets;
  bay = c % z.cabinets;
  cabinet = c;
  place = p;
  start = cabinet_at z c;
  address = cabinet_at z c + place_at p;
}

-- a lane of a table that is lent
pub record LaneLent (m : List ℕ) (z : Sizes) (l : Place) : Type 0 where
  pub lent : Lent m z
  pub yard : l.yard < z.yards
  pub bay : l.bay < z.cabinets
  pub number : l.cabinet ≡ l.yard * z.cabinets + l.bay
  pub cabinet : l.cabinet < cabinet_count z
  pub place : l.place < z.places
  pub start : l.start ≡ cabinet_at z l.cabinet
  pub address : l.address ≡ l.start + place_at l.place
  -- its cabinet's part
  pub part : l.start + lane_length * z.places ≤ length m

-- the lane of place p of the part from a on is on
abbrev pub online_at : List ℕ → ℕ → ℕ → Bool
online_at m a p = flag online_bit (at m (a + place_at p))

-- the mask of the lanes of cabinet c that are on
unfoldable pub online_mask : List ℕ → Sizes → ℕ → ℕ
online_mask m z c = mask (map (online_at m (cabinet_at z c)) (from 0 z.places))
