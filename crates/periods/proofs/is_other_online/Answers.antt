-- The lane itself counts as off among the others; any other lane stands there as it is in the state.
use Rattle.periods.proofs.OtherLanes.{itself, another}
use Rattle.periods.proofs.is_other_online.Goals as goal

pub returns-then-i-lane : goal.returns-then-i-lane
returns-then-i-lane c = itself _ _ c.requires.0 _ c.if-i-lane.true

pub returns : goal.returns
returns c = another _ _ c.requires.0 _ _ c.at.ensures.named c.at.ensures.number c.if-i-lane.false _ c.has.ensures
