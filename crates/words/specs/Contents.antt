-- The words of the contents, as the code makes them of the sizes.
use Rattle.std.specs.Prelude.{◌≡◌, ◌*◌}
use Rattle.model.specs.State.{Sizes, cabinet_count, lane_count}
use Rattle.model.specs.Layout.{lane_length, slot_length, lanes_body, slots_body, yards_body, total}
use Rattle.words.specs.declared.contents.Bodies.{Bodies}

-- the length of the cabinets' body, first word and length of the lanes' and of the slots', the first word of the yards', and the total
pub record BodiesOf (z : Sizes) (b : Bodies) : Type 0 where
  pub masks_long : b.masks_long ≡ cabinet_count z
  pub lanes : b.lanes ≡ lanes_body z
  pub lanes_long : b.lanes_long ≡ lane_length * lane_count z
  pub slots : b.slots ≡ slots_body z
  pub slots_long : b.slots_long ≡ slot_length * z.slots
  pub yards : b.yards ≡ yards_body z
  pub total : b.total ≡ total z
