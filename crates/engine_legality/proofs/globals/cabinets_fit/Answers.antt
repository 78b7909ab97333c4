use mathlib.Core.Path.{ap, ◌∙◌}
use Rattle.std.proofs.Common.{rules, tests}
use Rattle.engine_legality.specs.LaneSentences.{all_cabinets}
use Rattle.engine_legality.proofs.RangeLaws.{range-all}
use Rattle.engine_legality.proofs.globals.cabinets_fit.Goals as goal

pub returns : goal.returns
unfolding all_cabinets
returns c =
    let z = c.args.z in
    range-all _ _ _ _ _ c.all.ensures.ran (λ x b q k. search (rules, tests))
    ∙ ap (all_cabinets c.args.m.now z.yards z.cabinets z.places) c.yards_start-yards.ensures
