-- Yard and cabinet are the table's, since the lane is (`yard-known`, `bay-known`), and the lane stands there (`placed`).
use Rattle.access.proofs.LaneLaws.{yard-known, bay-known, placed}
use borrow.Author.Rules.{rules}
use Rattle.access.proofs.Lane.place.Goals as goal

pub new-requires : goal.new-requires
new-requires c =
    let size = c.yard_size.ensures in
    let yard = c.subtract_size-y.ensures in
    let bay = c.subtract_size-b.ensures in
    (yard-known _ c.requires _ _ _ size yard bay, bay-known _ c.requires _ _ _ size yard bay)

pub returns : goal.returns
returns c = search (rules, placed)
