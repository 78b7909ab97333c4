-- A refused call changes no word, and one that no cause refuses is `end-done`.
use mathlib.Core.Path.{refl}
use Rattle.access.proofs.Ways.{cause-refuses}
use Rattle.readers.proofs.Leaving.{resting-lane, end-done}
use Rattle.readers.proofs.end.Goals as goal

pub returns-in_err-check_end : goal.returns-in_err-check_end
returns-in_err-check_end c = cause-refuses _ _ c.requires.sound _ _ c.in_err-check_end.ensures.cause c.from_residual.ensures.1

pub put_flag-requires : goal.put_flag-requires
put_flag-requires c = resting-lane _ _ c.in_ok-check_end.ensures.lane _ c.put_lookup.ensures

pub returns : goal.returns
returns c = end-done _ _ c.requires c.in_ok-check_end.ensures.cause _ _ _ refl c.put_lookup.ensures c.put_flag.ensures
