use Rattle.std.proofs.Common.{rules, tests}
use Rattle.engine_legality.specs.LaneSentences.{cabinet_lanes}
use Rattle.engine_legality.proofs.RangeLaws.{range-all}
use Rattle.engine_legality.proofs.lanes.cabinet_lanes.Goals as goal

pub returns : goal.returns
unfolding cabinet_lanes
returns c = range-all _ _ _ _ _ c.all.ensures.ran (λ x b q k. search (rules, tests))
