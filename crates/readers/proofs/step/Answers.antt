-- A refused step changes no word; else the lookup goes on (`step-going`) or is put to rest (`step-ended`).
use mathlib.Core.Path.{sym, ap, ◌∙◌}
use Rattle.chains.specs.Outcome.{outcome_of}
use Rattle.access.proofs.Ways.{cause-refuses}
use Rattle.readers.proofs.StepLaws.{not-going, step-going, step-ended}
use Rattle.readers.proofs.step.Goals.{in-Going, in_default}
use Rattle.readers.proofs.step.Goals as goal

pub returns-in_err-check_step : goal.returns-in_err-check_step
returns-in_err-check_step c = cause-refuses _ _ c.requires.sound _ _ c.in_err-check_step.ensures.cause c.from_residual.ensures.1

pub go_on-requires : goal.go_on-requires
unfolding outcome_of
go_on-requires c = record { looking = c.in_ok-check_step.ensures.looking; going = sym c.lane_outcome-s.ensures ∙ ap outcome_of c.in-Going.is }

pub returns : goal.returns
unfolding outcome_of
returns c =
    let ok = c.in_ok-check_step.ensures in
    let outcome = c.lane_outcome-s.ensures in
    elim c.match-s.branch [
      | in-Going w ↦ step-going _ _ ok.looking ok.cause _ outcome _ c.into.ensures _ (ap outcome_of w.in-Going.is) (w.m-is ∙ w.go_on.ensures)
      | in_default w ↦ step-ended _ _ ok.looking ok.cause _ outcome _ c.into.ensures _ (not-going _ w.in_default.not-Going) (w.m-is ∙ w.put_lookup.ensures)
    ]
