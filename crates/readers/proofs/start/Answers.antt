-- A refused call changes no word, and one that no cause refuses is `start-done`.
use mathlib.Core.Path.{refl}
use Rattle.access.proofs.Ways.{cause-refuses}
use Rattle.readers.proofs.LookupLaws.{start-done}
use Rattle.readers.proofs.start.Goals as goal

pub returns-in_err-check_start : goal.returns-in_err-check_start
returns-in_err-check_start c = cause-refuses _ _ c.requires.sound _ _ c.in_err-check_start.ensures.cause c.from_residual.ensures.1

pub returns : goal.returns
returns c = start-done _ _ _ c.requires c.in_ok-check_start.ensures.cause _ _ _ c.chain_head-position.ensures refl c.put_lookup.ensures
