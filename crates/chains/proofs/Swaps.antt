-- First and successors of a list in which one element took another's place.
use Prim.Native.Nat.{ℕ, ◌+◌, ◌≤◌}
use mathlib.Core.Bool.{cond}
use mathlib.Core.Path.{◌≡◌, sym, ◌∙◌}
use mathlib.Core.Logic.{◌≢◌}
use mathlib.Core.List.{List, [], ◌∷◌}
use native.Mathlib.Omega.{arith}
use lib.Dec.{eqb}
use borrow.Author.Tests.{eq-eqb, ne_eqb}
use Rattle.model.specs.Lists.{first, count, successor, swapped}
use Rattle.laws.specs.Tests.{same, other, decide, eqb-self}
use Rattle.laws.specs.Removals.{before_in, before_in-not}

pub first-swapped : (xs : List ℕ) (o s e : ℕ) → count o xs ≡ 1 → count e xs ≡ 0 → first (swapped o s xs) ≡ cond (eqb e (before_in o xs e)) s (first xs)
unfolding count first swapped
first-swapped [] o s e h k = absurd (omega arith)
first-swapped (x ∷ xs) o s e h k =
    elim (decide x o) [
      | same q t u ↦ rw (t, eqb-self e)
      | other q t u ↦
          let n : e ≢ x = λ r. let w : 1 + count e xs ≡ 0 = rw (eq-eqb e x r) at k in omega arith in
          rw (t, ne_eqb e (before_in o xs x) (before_in-not xs o e x n (omega arith)))
    ]

-- o left for s, which stands where o stood
pub successor-swapped : (xs : List ℕ) (o s i e d : ℕ) → i ≢ o → i ≢ e → count o xs ≡ 1 → count s xs ≡ 0 → count i xs ≤ 1
    → successor (swapped o s xs) i d ≡ cond (eqb i (before_in o xs e)) s (cond (eqb i s) (successor xs o d) (successor xs i d))
unfolding count successor swapped
successor-swapped [] o s i e d n f h k l = absurd (omega arith)
successor-swapped (x ∷ xs) o s i e d n f h k l =
    elim (decide x o) [
      | same q t u ↦
          rw (t, ne_eqb i e f)
          (elim (decide s i) [
            | same r v w ↦ rw (v, w)
            | other r v w ↦ rw (v, w, ne_eqb x i (λ a. n (sym a ∙ q)))
          ])
      | other q t u ↦
          let h' : 0 + count o xs ≡ 1 = rw u at h in
          rw t
          (elim (decide x i) [
            | same r v w ↦
                let l' : 1 + count i xs ≤ 1 = rw w at l in
                let z : i ≢ s = λ a. let k' : 1 + count s xs ≡ 0 = rw (eq-eqb s x (sym a ∙ sym r)) at k in omega arith in
                rw (v, ne_eqb i s z, ← r) (first-swapped xs o s x (omega arith) (rw r (omega arith)))
            | other r v w ↦
                let l' : 0 + count i xs ≤ 1 = rw w at l in
                rw v (successor-swapped xs o s i x d n (λ a. r (sym a)) (omega arith) (omega arith) (omega arith))
          ])
    ]
