-- What each call ensures, one after the other.
use Rattle.slot_places.proofs.QueueLaws.{runs-fail, runs_then}
use Rattle.legality.specs.Parts.{queued_steps}
use Rattle.legality.proofs.walk_queues.Goals as goal

pub returns-in_err-f : goal.returns-in_err-f
unfolding queued_steps
returns-in_err-f c = rw c.from_residual.ensures (runs-fail _ _ _ _ c.in_err-f.ensures)

pub returns-in_err-g : goal.returns-in_err-g
unfolding queued_steps
returns-in_err-g c =
    rw c.from_residual-in_err-g.ensures (runs_then _ _ _ _ c.in_ok-f.ensures (runs-fail _ _ _ _ c.in_err-g.ensures))

pub returns : goal.returns
unfolding queued_steps
returns c = runs_then _ _ _ _ c.in_ok-f.ensures (runs_then _ _ _ _ c.in_ok-g.ensures c.lane_queues.ensures)
