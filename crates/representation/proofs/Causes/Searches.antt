-- What a search for a code finds in a list of slots.
use Prim.Native.Nat.{ℕ, ◌+◌, ◌<◌}
use mathlib.Core.Path.{◌≡◌, refl, ap, sym, ◌∙◌, subst}
use mathlib.Core.Logic.{◌≢◌}
use mathlib.Core.Bool.{Bool, cond}
use mathlib.Core.List.{List, [], ◌∷◌}
use native.Mathlib.Omega.{arith}
use Rattle.model.specs.Word.{none}
use Rattle.model.specs.Lists.{count}
use Rattle.model.specs.State.{Product}
use Rattle.model.specs.Table.{slot_in, product_at}
use Rattle.laws.specs.Tests.{same, other, decide}
use Rattle.laws.specs.Counts.{count-self}

module _ (ps : List Product) (c : ℕ) where
  abbrev code_in : ℕ → ℕ
  code_in x = (product_at ps x).code

  -- what was found holds the code
  pub slot_in-code : (xs : List ℕ) → slot_in ps c xs ≢ none → code_in (slot_in ps c xs) ≡ c
  unfolding slot_in
  slot_in-code [] n = absurd (n refl)
  slot_in-code (x ∷ xs) n =
      elim (decide (code_in x) c) [
        | same e u v ↦ ap (λ (b : Bool). code_in (cond b x (slot_in ps c xs))) u ∙ e
        | other e u v ↦ ap (λ (b : Bool). code_in (cond b x (slot_in ps c xs))) u ∙ slot_in-code xs (λ q. n (rw u q))
      ]

  -- and is in the list
  pub slot_in-in : (xs : List ℕ) → slot_in ps c xs ≢ none → 0 < count (slot_in ps c xs) xs
  unfolding count slot_in
  slot_in-in [] n = absurd (n refl)
  slot_in-in (x ∷ xs) n =
      elim (decide (code_in x) c) [
        | same e u v ↦ rw u (omega (arith, count-self x xs))
        | other e u v ↦
            let on : slot_in ps c (x ∷ xs) ≡ slot_in ps c xs = ap (λ (b : Bool). cond b x (slot_in ps c xs)) u in
            subst (λ (z : ℕ). 0 < count z (x ∷ xs)) (sym on) (omega (arith, slot_in-in xs (λ q. n (rw u q))))
      ]

  -- a slot of the list that holds the code is found
  pub slot_in-some : (y : ℕ) (xs : List ℕ) → ((x : ℕ) → 0 < count x xs → x ≢ none) → 0 < count y xs → code_in y ≡ c → slot_in ps c xs ≢ none
  unfolding count slot_in
  slot_in-some y [] r h e = absurd (omega arith)
  slot_in-some y (x ∷ xs) r h e =
      elim (decide (code_in x) c) [
        | same q u v ↦ rw u (r x (omega (arith, count-self x xs)))
        | other q u v ↦ rw u (slot_in-some y xs (λ z b. r z (omega arith))
            (elim (decide y x) [
              | same p t t' ↦ absurd (q (sym (ap code_in p) ∙ e))
              | other p t t' ↦ let k : 0 < 0 + count y xs = rw t at h in omega arith
            ]) e)
      ]
