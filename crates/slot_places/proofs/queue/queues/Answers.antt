use mathlib.Core.Path.{◌∙◌}
use native.Mathlib.Omega.{arith}
use Rattle.slot_places.proofs.QueueLaws.{runs-counted, rest-fail, rest-next, rest-end}
use Rattle.slot_places.proofs.queue.queues.Goals as goal

pub returns-in_err-rest : goal.returns-in_err-rest
returns-in_err-rest c = rw c.from_residual.ensures (rest-fail _ _ _ _ _ _ _ _ c.loop-i.invariant.1 (omega arith) c.in_err-rest.ensures)

pub loop-i-preserved : goal.loop-i-preserved
loop-i-preserved c = (
  runs-counted _ _ _ c.in_ok-rest.ensures,
  rest-next _ _ _ _ _ _ _ _ c.loop-i.invariant.1 (omega arith) c.in_ok-rest.ensures,
  c.queue.auto.marks ∙ c.loop-i.invariant.2,
)

pub returns : goal.returns
returns c = rest-end _ _ _ _ _ _ _ _ _ c.loop-i.invariant.1 (omega arith) c.loop-i.invariant.0
