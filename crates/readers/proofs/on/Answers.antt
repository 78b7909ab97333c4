-- A refused call changes no word, and one that no cause refuses is `on-done`.
use mathlib.Core.Path.{refl}
use Rattle.access.proofs.Ways.{cause-refuses}
use Rattle.readers.proofs.FlagCalls.{on-done}
use Rattle.readers.proofs.on.Goals as goal

pub returns-in_err-check_on : goal.returns-in_err-check_on
returns-in_err-check_on c = cause-refuses _ _ c.requires.sound _ _ c.in_err-check_on.ensures.cause c.from_residual.ensures.1

pub returns : goal.returns
returns c = on-done _ _ c.in_ok-check_on.ensures.lane _ _ refl c.in_ok-check_on.ensures.cause c.put_flag.ensures
