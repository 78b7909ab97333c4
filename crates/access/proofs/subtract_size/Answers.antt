use mathlib.Core.Path.{◌≡◌, ap, ◌∙◌}
use Prim.Native.Nat.{ℕ}
use native.Mathlib.Omega.{arith}
use Rattle.laws.specs.Subtractions.{split, subtracting-on, subtracting-most, subtracting-below}
use Rattle.access.specs.Lanes.{most_subtractions}
use Rattle.access.proofs.subtract_size.Goals as goal

pub returns-then-left-size : goal.returns-then-left-size
returns-then-left-size c = subtracting-below _ _ _ _ _ c.loop-times.invariant (omega (arith, c.if-left-size.true))

pub loop-times-preserved : goal.loop-times-preserved
loop-times-preserved c = subtracting-on _ _ _ _ _ c.loop-times.invariant (omega (arith, c.loop-times-test.true)) (omega (arith, c.if-left-size.false))

pub returns : goal.returns
returns c =
    let all : most_subtractions ≡ c.loop-times.times = omega arith in
    ap (λ (t : ℕ). split t c.loop-times.left) all ∙ subtracting-most _ _ _ _ _ c.loop-times.invariant (omega arith)
