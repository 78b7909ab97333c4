-- The one store is the change that `update` states.
use Rattle.std.proofs.Common.{ℕ, sym, ap, ◌∙◌}
use Rattle.model.specs.Word.{up_to}
use Rattle.model.specs.Lists.{update}
use Rattle.model.specs.Layout.{count_limit}
use Rattle.laws.specs.Updates.{update-set}
use Rattle.lanes.proofs.count.Goals as goal

pub returns : goal.returns
returns c =
    let q = c.args.quiescent in
    sym (update-set 0 _ _ _)
    ∙ ap (λ (i : ℕ). update q i (up_to count_limit)) c.index-at.ensures.number
