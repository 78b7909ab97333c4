-- A lane as the calls hand it on: its number, where its record begins, and the sizes of the table, worked out once a call.
use Rattle.std.specs.Prelude.{ℕ, ◌+◌, ◌*◌, ◌/◌, ◌%◌, ◌≤◌, ◌<◌, ◌≡◌, List, length}
use Rattle.model.specs.State.{Sizes, lane_count}
use Rattle.model.specs.Layout.{lane_length, lane_address}
use Rattle.model.specs.Memory.{sizes}
use Rattle.laws.specs.Subtractions.{Split as Subtracted, split, subtracted}
use Rattle.representation.specs.Sound.{Sound}
use Rattle.words.specs.Lent.{sizes_of, Lent}
use Rattle.lanes.specs.declared.Place.{Place}
use Rattle.lanes.specs.Cabinet.{stand}
use Rattle.access.specs.declared.Lane.{Lane}
use Rattle.access.specs.declared.Split.{Split}

-- a legal memory, and what was worked out of a lane's number; whether there is such a lane is not told
pub record Named (m : List ℕ) (l : Lane) : Type 0 where
  pub sound : Sound m
  pub address : l.address ≡ lane_address (sizes m) l.number
  pub sizes : sizes_of l.sizes ≡ sizes m
  -- the table is lent
  pub lent : Lent m (sizes_of l.sizes)

-- the same, and there is such a lane
pub record LaneIn (m : List ℕ) (l : Lane) : Type 0 where
  pub named : Named m l
  pub known : l.number < lane_count (sizes m)
  -- its record is lent
  pub inside : l.address + lane_length ≤ length m

-- ---- its cabinet and its place there

abbrev pub place_of : Sizes → ℕ → Place
place_of z i = stand z (i / z.places) (i % z.places)

-- a lane of a table of its sizes
pub record Standing (l : Lane) : Type 0 where
  pub some_cabinets : 1 ≤ l.sizes.cabinets
  pub some_places : 1 ≤ l.sizes.places
  pub known : l.number < lane_count (sizes_of l.sizes)

-- each size is subtracted at most so often
abbrev pub most_subtractions : ℕ
most_subtractions = 7

abbrev pub split_of : Split → Subtracted
split_of s = split s.times s.left

-- the lanes of a yard
abbrev pub yard_size : Sizes → ℕ
yard_size z = z.cabinets * z.places

-- the yard's size subtracted from the lane's number, and the cabinet's from what is left
abbrev pub yard_split : Lane → Subtracted
yard_split l = subtracted most_subtractions (yard_size (sizes_of l.sizes)) l.number

abbrev pub bay_split : Lane → Subtracted
bay_split l = subtracted most_subtractions l.sizes.places (yard_split l).left

-- where the lane stands, by quotient and remainder; its yard and its cabinet there are the numbers of subtractions
pub record Placed (l : Lane) (p : Place) : Type 0 where
  pub place : p ≡ place_of (sizes_of l.sizes) l.number
  pub yard : p.yard ≡ (yard_split l).times
  pub bay : p.bay ≡ (bay_split l).times
  pub few_yards : p.yard ≤ most_subtractions
  pub few_bays : p.bay ≤ most_subtractions
