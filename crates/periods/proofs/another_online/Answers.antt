-- There are as many others as the lane's sizes say, and each call tells of one of them.
use mathlib.Core.Path.{sym, ◌∙◌}
use Rattle.std.proofs.Common.{rules, tests}
use Rattle.model.specs.Rules.{is_online}
use Rattle.model.specs.Engine.{fresh_lane}
use Rattle.periods.proofs.OtherLanes.{others-length, range-any}
use Rattle.periods.proofs.another_online.Goals as goal

pub returns : goal.returns
returns c =
    range-any is_online fresh_lane _ _ _ _ _ (others-length _ _ c.requires ∙ sym c.lane_count.ensures) c.any.ensures.ran (λ x b q k. search (rules, tests))
