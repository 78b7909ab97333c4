-- A refused call changes no word, and one that no cause refuses is `begin-done`.
use mathlib.Core.Path.{refl}
use Rattle.access.proofs.Ways.{cause-refuses}
use Rattle.readers.proofs.FlagCalls.{begin-done}
use Rattle.readers.proofs.begin.Goals as goal

pub returns-in_err-check_begin : goal.returns-in_err-check_begin
returns-in_err-check_begin c = cause-refuses _ _ c.requires.sound _ _ c.in_err-check_begin.ensures.cause c.from_residual.ensures.1

pub returns : goal.returns
returns c = begin-done _ _ c.in_ok-check_begin.ensures.lane _ _ refl c.in_ok-check_begin.ensures.cause c.put_flag.ensures
