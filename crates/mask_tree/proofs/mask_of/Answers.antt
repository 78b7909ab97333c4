use Prim.Native.Nat.{ℕ}
use mathlib.Core.Path.{refl, ap, ◌∙◌}
use mathlib.Core.Bool.{not}
use native.Mathlib.Omega.{arith}
use borrow.Author.Tests.{eq-eqb, ne_eqb}
use Rattle.model.specs.Memory.{at, is_not_zero}
use Rattle.masks.proofs.BitLaws.{mask-set, mask-clear}
use Rattle.mask_tree.proofs.mask_of.Goals as goal
use Rattle.mask_tree.proofs.mask_of.Goals.{then-word-ne0, else-word-ne0}

pub loop-p-preserved : goal.loop-p-preserved
loop-p-preserved c =
    let f = λ (p : ℕ). is_not_zero (at c.args.words.now p) in
    let p = c.loop-p.p in
    elim c.if-word-ne0.branch [
      | then-word-ne0 w ↦
          mask-set f p _ _ (omega arith) c.loop-p.invariant _ refl (ap not (ne_eqb _ 0 w.if-word-ne0.true)) (w.mask-is ∙ w.set_bit-mask.ensures)
      | else-word-ne0 w ↦
          mask-clear f p _ _ (omega arith) c.loop-p.invariant _ refl (ap not (eq-eqb _ 0 w.if-word-ne0.false)) w.mask-is
    ]
