use Rattle.std.proofs.Common.{rules, tests}
use Rattle.engine_legality.specs.LaneSentences.{group_fits}
use Rattle.engine_legality.proofs.RangeLaws.{range-all}
use Rattle.engine_legality.proofs.globals.group_fits.Goals as goal

pub returns : goal.returns
unfolding group_fits
returns c = range-all _ _ _ _ _ c.all.ensures.ran (λ x b q k. search (rules, tests))
