-- Walks along links: what a walk finds, and that a walk along the links of a list's elements gives the list back.
use Prim.Native.Nat.{ℕ, zero, suc, ◌+◌, ◌≤◌, ◌<◌}
use Rattle.std.specs.Prelude.{Bool, true, false, ◌≡◌, get_or, leb}
use Rattle.std.proofs.Math.Path.{refl, ap, sym}
use Rattle.std.proofs.Common.{◌∙◌, ne_eqb, leb-true, leb-false, le-leb}
use mathlib.Core.List.{List, [], ◌∷◌}
use native.Mathlib.Omega.{arith}
use Rattle.std.proofs.Math.ListN.{length}
use Rattle.std.proofs.lemmas.Bool.{lt-leb}
use Rattle.model.specs.Word.{none}
use Rattle.model.specs.Lists.{count, first, successor}
use Rattle.model.specs.Memory.{walk}
use Rattle.laws.specs.Tests.{same, other, decide, eqb-self}
use Rattle.laws.specs.Counts.{count-self}

module _ (links : List ℕ) where
  -- ---- one step

  pub walk-stop : (h n : ℕ) → length links ≤ h → walk links h n ≡ []
  unfolding walk
  walk-stop h zero b = refl
  walk-stop h (suc n) b = rw (le-leb (length links) h b, walk)

  pub walk-on : (h n : ℕ) → h < length links → walk links h (suc n) ≡ h ∷ walk links (get_or links h none) n
  unfolding walk
  walk-on h n b = rw (lt-leb (length links) h b, walk)

  pub data Step (h : ℕ) : Type 0 where
    stop : length links ≤ h → Step h
    on : h < length links → Step h

  pub step : (h : ℕ) → Step h
  step h = go (leb (length links) h) refl
    where
      go : (b : Bool) → leb (length links) h ≡ b → Step h
      go true e = stop (leb-true _ _ e)
      go false e = on (leb-false _ _ e)

  -- ---- what a walk finds

  pub walk_first : (h n : ℕ) → 0 < n → (length links ≤ h → h ≡ none) → first (walk links h n) ≡ h
  unfolding first
  walk_first h zero b k = absurd (omega arith)
  walk_first h (suc n) b k =
      elim (step h) [
        | stop p ↦ ap first (walk-stop h (suc n) p) ∙ sym (k p)
        | on p ↦ ap first (walk-on h n p)
      ]

  pub walk-below : (h n i : ℕ) → 0 < count i (walk links h n) → i < length links
  unfolding count walk
  walk-below h zero i b = absurd (omega arith)
  walk-below h (suc n) i b =
      elim (step h) [
        | stop p ↦ absurd (let k : 0 < 0 = rw (walk-stop h (suc n) p) at b in omega arith)
        | on p ↦
            let k : 0 < count i (h ∷ walk links (get_or links h none) n) = rw (walk-on h n p) at b in
            elim (decide i h) [
              | same e t u ↦ omega arith
              | other e t u ↦ walk-below (get_or links h none) n i (let k' : 0 < 0 + count i (walk links (get_or links h none) n) = rw t at k in omega arith)
            ]
      ]

  -- a walk that did not run out answers for each of its elements by the links
  pub walk-successor : ((i : ℕ) → i < length links → length links ≤ get_or links i none → get_or links i none ≡ none)
      → (h n i d : ℕ) → length (walk links h n) < n → 0 < count i (walk links h n) → successor (walk links h n) i d ≡ get_or links i none
  unfolding count successor
  walk-successor r h zero i d l b = absurd (omega arith)
  walk-successor r h (suc n) i d l b =
      elim (step h) [
        | stop p ↦ absurd (let k : 0 < 0 = rw (walk-stop h (suc n) p) at b in omega arith)
        | on p ↦
            let w = walk links (get_or links h none) n in
            let k : 0 < count i (h ∷ w) = rw (walk-on h n p) at b in
            let l' : length (h ∷ w) < suc n = rw (walk-on h n p) at l in
            ap (λ (xs : List ℕ). successor xs i d) (walk-on h n p)
            ∙ elim (decide h i) [
              | same e t u ↦ rw t (walk_first (get_or links h none) n (omega arith) (r h p) ∙ rw e)
              | other e t u ↦ rw t (walk-successor r (get_or links h none) n i d (omega arith) (let k' : 0 < 0 + count i w = rw u at k in omega arith))
            ]
      ]

  -- ---- a list walked back

  -- each element of xs links to the next
  abbrev pub Linked : List ℕ → Type 0
  Linked [] = Unit {0}
  Linked (x ∷ xs) = (get_or links x none ≡ first xs) × Linked xs

  pub linked : (xs : List ℕ) → ((i : ℕ) → count i xs ≤ 1) → ((i : ℕ) → 0 < count i xs → get_or links i none ≡ successor xs i none) → Linked xs
  unfolding count successor
  linked [] u h = tt
  linked (x ∷ xs) u h = (
    h x (omega (arith, count-self x xs)) ∙ rw (eqb-self x),
    linked xs (λ i. omega (arith, u i))
        (λ i b. h i (omega arith) ∙ rw (ne_eqb x i (λ e. let k : 0 < count x xs = rw e b in omega (arith, u x, count-self x xs)))),
  )

  pub walk-back : (xs : List ℕ) (n : ℕ) → length links ≤ none → length xs < n → ((i : ℕ) → 0 < count i xs → i < length links) → Linked xs
      → walk links (first xs) n ≡ xs
  unfolding count first
  walk-back [] n l b h c = walk-stop none n l
  walk-back (x ∷ xs) zero l b h c = absurd (omega arith)
  walk-back (x ∷ xs) (suc n) l b h c =
      walk-on x n (h x (omega (arith, count-self x xs)))
      ∙ ap (λ (r : List ℕ). x ∷ r) (ap (λ (i : ℕ). walk links i n) c.0 ∙ walk-back xs n l (omega arith) (λ i k. h i (omega arith)) c.1)
