-- A refused call changes no word, and one that no cause refuses is `off-done`.
use mathlib.Core.Path.{refl}
use Rattle.access.proofs.Ways.{cause-refuses}
use Rattle.periods.proofs.TickLaws.{placed-lent, off-done}
use Rattle.periods.proofs.off.Goals as goal

pub returns-in_err-check_off : goal.returns-in_err-check_off
returns-in_err-check_off c = cause-refuses _ _ c.requires.sound _ _ c.in_err-check_off.ensures.cause c.from_residual.ensures.1

pub off-requires : goal.off-requires
off-requires c = placed-lent _ _ c.in_ok-check_off.ensures.lane _ c.place.ensures

pub returns : goal.returns
returns c = off-done _ _ c.requires c.in_ok-check_off.ensures.cause _ c.place.ensures.place _ _ refl c.off.ensures
