use Prim.Native.Nat.{ℕ, ◌+◌}
use mathlib.Core.Path.{ap, ◌∙◌}
use Rattle.std.proofs.Common.{rules, tests}
use Rattle.std.proofs.iter.Serving.{serving}
use Rattle.model.specs.State.{cabinet_count}
use Rattle.model.specs.Layout.{masks_at}
use Rattle.engine_legality.specs.LaneSentences.{generations_in, all_lanes}
use Rattle.words.specs.Lent.{sizes_of}
use Rattle.engine_legality.proofs.LaneLoops.{lanes-within}
use Rattle.engine_legality.proofs.RangeLaws.{range-all}
use Rattle.engine_legality.proofs.lanes.lanes_fit.Goals as goal

pub all-requires-clause-callable : goal.all-requires-clause-callable
all-requires-clause-callable c = grind (serving, lanes-within (cabinet_count (sizes_of c.args.z)) c.args.z.places)

pub returns : goal.returns
unfolding all_lanes
returns c =
    let z = c.args.z in
    range-all _ _ _ _ _ c.all.ensures.ran (λ x b q k. search (rules, tests))
    ∙ ap (λ (n : ℕ). all_lanes (generations_in c.args.m.now) c.args.m.now z.slots n z.places (masks_at + n)) c.cabinet_count-cabinets.ensures
