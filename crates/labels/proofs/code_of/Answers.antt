use native.Mathlib.Omega.{arith}
use Rattle.labels.proofs.ReadLaws.{digit-first, label-digit, reading-start, reading-fits, reading-on, reading-done}
use Rattle.labels.proofs.code_of.Goals as goal

pub loop-b-init : goal.loop-b-init
loop-b-init c = reading-start _

pub overflow_mul-code : goal.overflow_mul-code
overflow_mul-code c = omega (arith, reading-fits _ c.requires _ _ c.loop-b.invariant c.loop-b-test.true)

pub overflow_sub-b : goal.overflow_sub-b
overflow_sub-b c = digit-first _ (label-digit _ c.requires _ c.loop-b-test.true)

pub overflow_add-code : goal.overflow_add-code
overflow_add-code c = omega (arith, c.from.ensures, reading-fits _ c.requires _ _ c.loop-b.invariant c.loop-b-test.true)

pub loop-b-preserved : goal.loop-b-preserved
loop-b-preserved c = rw c.from.ensures (reading-on _ c.requires _ _ c.loop-b.invariant c.loop-b-test.true)

pub returns : goal.returns
returns c = reading-done _ _ _ c.loop-b.invariant c.loop-b-test.false
