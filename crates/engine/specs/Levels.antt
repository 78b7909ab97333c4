-- The masks of a table of sizes z as a tree of three levels: the cabinets' lane masks, the yards' cabinet masks, the yard mask; and the bits of the lane l in it.
use Rattle.std.specs.Prelude.{List, [], ◌∷◌}
use Rattle.model.specs.State.{Sizes, cabinet_count}
use Rattle.model.specs.Layout.{yard_mask_at, masks_at, yards_body}
use Rattle.mask_tree.specs.Tree.{Level, Rung}
use Rattle.lanes.specs.declared.Place.{Place}

module _ (z : Sizes) where
  abbrev pub lane_level : Level
  lane_level = record { first = masks_at; wide = z.places; count = cabinet_count z }

  abbrev pub cabinet_level : Level
  cabinet_level = record { first = yards_body z; wide = z.cabinets; count = z.yards }

  abbrev pub yard_level : Level
  yard_level = record { first = yard_mask_at; wide = z.yards; count = 1 }

  abbrev pub upper_levels : List Level
  upper_levels = cabinet_level ∷ yard_level ∷ []

  -- the lane's bit, its cabinet's and its yard's
  abbrev pub rungs : Place → List Rung
  rungs l =
      record { level = lane_level; group = l.cabinet; place = l.place }
      ∷ record { level = cabinet_level; group = l.yard; place = l.bay }
      ∷ record { level = yard_level; group = 0; place = l.yard }
      ∷ []
