use native.Mathlib.Omega.{arith}
use borrow.Author.Tests.{not-true, not-false}
use Rattle.distinct_codes.proofs.TreeLaws.{sofar-on, sofar-fails, sofar-end, apart-listed}
use Rattle.distinct_codes.proofs.enter_all.Goals as goal

pub returns-then-not-enter : goal.returns-then-not-enter
returns-then-not-enter g c =
    apart-listed _ _ _ (sofar-fails _ _ _ _ _ c.loop-i.invariant _ _ c.enter.ensures (not-true _ c.if-not-enter.true-raw) _ (omega arith))

pub loop-i-preserved : goal.loop-i-preserved
loop-i-preserved g c = sofar-on _ _ _ _ _ c.loop-i.invariant _ _ c.enter.ensures (not-false _ c.if-not-enter.false-raw)

pub returns : goal.returns
returns g c = apart-listed _ _ _ (sofar-end _ _ _ _ _ c.loop-i.invariant _ (omega arith))
