-- A cause of the lane is handed on.
use Rattle.model.specs.Rules.{causes}
use Rattle.model.specs.Memory.{state}
use Rattle.access.proofs.Refusals.{lane-stops}
use Rattle.readers.proofs.check_pass.Goals as goal

pub returns-in_err-check_lane-clause-cause : goal.returns-in_err-check_lane-clause-cause
unfolding causes
returns-in_err-check_lane-clause-cause c = lane-stops (state c.args.m.now) _ _ _ _ c.in_err-check_lane.ensures.cause c.from_residual.ensures.1
