-- A refused call changes no word, and one that no cause refuses is `clock-done`.
use mathlib.Core.Path.{◌≡◌, refl, ap, ◌∙◌}
use mathlib.Core.Bool.{Bool, cond}
use native.Mathlib.Omega.{arith}
use Rattle.access.proofs.Ways.{cause-refuses}
use Rattle.periods.proofs.TickLaws.{placed-lent, clock-refusal, clock-done}
use Rattle.periods.proofs.clock.Goals as goal

pub returns-in_err-check_lane : goal.returns-in_err-check_lane
returns-in_err-check_lane c =
    cause-refuses _ _ c.requires.sound _ _ (clock-refusal _ _ _ c.in_err-check_lane.ensures.cause) c.from_residual.ensures.1

pub clock-requires : goal.clock-requires
clock-requires c = placed-lent _ _ c.in_ok-check_lane.ensures.lane _ c.place.ensures

pub returns : goal.returns
returns c =
    let runs : c.from.result ≡ cond c.is_period.result 1 0 = grind arith in
    clock-done _ _ c.requires c.in_ok-check_lane.ensures.cause _ c.place.ensures.place _ c.clock.ensures
    _ _ _ _ c.done_length-before.ensures c.done_length.ensures refl (runs ∙ ap (λ (b : Bool). cond b 1 0) c.is_period.ensures) _ refl
