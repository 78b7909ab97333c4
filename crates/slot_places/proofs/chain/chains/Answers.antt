use mathlib.Core.Path.{◌∙◌}
use native.Mathlib.Omega.{arith}
use Rattle.slot_places.proofs.ChainLaws.{enters-ready, rest-fail, rest-next, rest-end}
use Rattle.slot_places.proofs.chain.chains.Goals as goal

pub returns-in_err-left : goal.returns-in_err-left
returns-in_err-left g c =
    rw c.from_residual.ensures
    (rest-fail _ _ _ _ _ _ _ _ _ _ _ _ _ c.loop-k.invariant.2 (omega arith) c.loop-k.k (omega arith) c.in_err-left.ensures)

pub loop-k-preserved : goal.loop-k-preserved
loop-k-preserved g c =
    let w = enters-ready _ _ _ _ _ _ c.in_ok-left.ensures in (
      w.0,
      w.1,
      rest-next _ _ _ _ _ _ _ _ _ _ _ _ _ c.loop-k.invariant.2 (omega arith) c.loop-k.k (omega arith) c.in_ok-left.ensures,
      c.walk_chain.auto.marks ∙ c.loop-k.invariant.3,
    )

pub returns : goal.returns
returns g c = rest-end _ _ _ _ _ _ _ _ _ _ _ _ _ c.loop-k.invariant.2 _ (omega arith) c.loop-k.invariant.0 c.loop-k.invariant.1
