-- Sizes not above the largest.
use Rattle.std.specs.Prelude.{◌*◌, ◌≤◌}
use Rattle.model.specs.State.{Sizes, cabinet_count, lane_count}
use Rattle.model.specs.Layout.{max_yards, max_cabinets, max_places, max_slots}

-- sizes not above the largest
pub record Few (z : Sizes) : Type 0 where
  pub yards : z.yards ≤ max_yards
  pub cabinets : z.cabinets ≤ max_cabinets
  pub places : z.places ≤ max_places
  pub all_cabinets : cabinet_count z ≤ max_yards * max_cabinets
  pub lanes : lane_count z ≤ max_yards * max_cabinets * max_places
  pub slots : z.slots ≤ max_slots
