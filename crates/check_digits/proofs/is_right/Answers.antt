use native.Mathlib.Omega.{arith}
use Rattle.check_digits.proofs.AddingLaws.{adding-on, adding-done}
use Rattle.check_digits.proofs.is_right.Goals as goal

pub loop-preserved : goal.loop-preserved
loop-preserved c = adding-on _ _ _ _ _ c.loop.invariant _ (omega arith)

pub returns : goal.returns
returns c = adding-done _ _ _ _ _ c.loop.invariant (omega arith)
