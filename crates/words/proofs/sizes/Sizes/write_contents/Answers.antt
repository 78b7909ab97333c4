-- The words stored, in their order, are the contents; what is computed of them is what the contents have.
use Rattle.model.specs.Memory.{contents}
use Rattle.words.proofs.sizes.Sizes.write_contents.Goals as goal

pub returns : goal.returns
unfolding contents
returns c =
    let b = c.bodies-b.ensures in
    rw (b.masks_long, b.lanes, b.lanes_long, b.slots, b.slots_long, b.yards)
