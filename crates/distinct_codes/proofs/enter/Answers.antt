use Prim.Native.Nat.{ℕ, ◌+◌, ◌*◌, ◌-◌, ◌%◌}
use mathlib.Core.Path.{sym, ◌∙◌, refl}
use native.Mathlib.Omega.{arith}
use Rattle.distinct_codes.specs.Tree.{branches}
use Rattle.distinct_codes.proofs.TreeLaws.{step-on, step-below, step-new}
use Rattle.distinct_codes.proofs.enter.Goals as goal

pub loop-v-smaller : goal.loop-v-smaller
loop-v-smaller g c =
    let i = c.loop-v.invariant in
    omega (arith, step-below g.row.CELLS (λ (t : ℕ). t) _ _ _ _ i.1 c.loop-v-test.true c.requires.4)

pub loop-v-preserved : goal.loop-v-preserved
loop-v-preserved g c =
    let i = c.loop-v.invariant in
    let e = c.code.ensures in (
      i.0,
      refl,
      omega arith,
      c.requires.4.within (g.row.CELLS + branches * (c.loop-v.v - 1) + c.loop-v.digits % branches),
      step-on _ _ _ _ _ _ i.1 c.loop-v-test.true _ refl i.4 (λ q. c.if-code.false (e ∙ q ∙ sym i.0)),
    )

pub returns : goal.returns
returns g c =
    let i = c.loop-v.invariant in
    step-new _ _ _ _ _ (omega arith) (omega arith) c.requires.4 (omega arith) _ i.4
