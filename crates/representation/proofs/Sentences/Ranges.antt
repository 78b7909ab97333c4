-- Which numbers are a slot or none: first, last and successors of lists of slots. Codes and products in range.
use Prim.Native.Nat.{ℕ, ◌<◌, ◌≤◌}
use mathlib.Core.Path.{◌≡◌, refl}
use mathlib.Core.Logic.{inl, inr}
use mathlib.Core.Bool.{Bool, true, false, ◌||◌}
use mathlib.Core.List.{List, [], ◌∷◌}
use native.Mathlib.Omega.{arith}
use lib.Dec.{eqb, ltb}
use borrow.Author.Tests.{eq-eqb, eqb-true, lt-ltb, ltb-true, ltb-false, le-ltb}
use Rattle.model.specs.Word.{none}
use Rattle.model.specs.Lists.{first, last, concat, count, successor, successor_in}
use Rattle.model.specs.Layout.{max_code, max_deposit, max_material}
use Rattle.model.specs.State.{Product}
use Rattle.model.specs.Table.{product}
use Rattle.model.specs.Rules.{wrong_code, wrong_product}
use Rattle.laws.specs.Tests.{clash, or_cases, or_left, or_right, same, other, decide}
use Rattle.laws.specs.Counts.{count-self, count-append}
use Rattle.representation.proofs.WellFormed.{SlotOrNone, ProductFits}

module _ (n : ℕ) where
  -- the test
  pub slot_or_none-true : (x : ℕ) → (ltb x n || eqb x none) ≡ true → SlotOrNone n x
  slot_or_none-true x h = or_cases (ltb x n) (eqb x none) h (λ q. inl (ltb-true x n q)) (λ q. inr (eqb-true x none q))

  pub slot_or_none-intro : (x : ℕ) → SlotOrNone n x → (ltb x n || eqb x none) ≡ true
  slot_or_none-intro x (inl h) = or_left (ltb x n) (eqb x none) (lt-ltb x n h)
  slot_or_none-intro x (inr h) = or_right (ltb x n) (eqb x none) (eq-eqb x none h)

  -- all of xs are slots
  abbrev pub Slots : List ℕ → Type 0
  Slots xs = (x : ℕ) → 0 < count x xs → x < n

  pub first_range : (xs : List ℕ) → Slots xs → SlotOrNone n (first xs)
  unfolding first
  first_range [] h = inr refl
  first_range (x ∷ xs) h = inl (h x (omega (arith, count-self x xs)))

  pub last-range : (xs : List ℕ) → Slots xs → SlotOrNone n (last xs)
  unfolding count last
  last-range [] h = inr refl
  last-range (x ∷ []) h = inl (h x (omega (arith, count-self x [])))
  last-range (x ∷ (y ∷ xs)) h = last-range (y ∷ xs) (λ z b. h z (omega arith))

  successor-range : (xs : List ℕ) (i d : ℕ) → Slots xs → SlotOrNone n d → SlotOrNone n (successor xs i d)
  unfolding count successor
  successor-range [] i d h k = k
  successor-range (x ∷ xs) i d h k =
      elim (decide x i) [
        | same e t u ↦ rw t (first_range xs (λ z b. h z (omega arith)))
        | other e t u ↦ rw t (successor-range xs i d (λ z b. h z (omega arith)) k)
      ]

  pub successor_in-range : (xss : List (List ℕ)) (i d : ℕ) → Slots (concat xss) → SlotOrNone n d → SlotOrNone n (successor_in xss i d)
  unfolding concat successor_in
  successor_in-range [] i d h k = k
  successor_in-range (xs ∷ xss) i d h k =
      successor-range xs i (successor_in xss i d) (λ z b. h z (omega (arith, count-append z xs (concat xss))))
      (successor_in-range xss i d (λ z b. h z (omega (arith, count-append z xs (concat xss)))) k)

-- ---- codes and products

pub code_fits : (c : ℕ) → wrong_code c ≡ false → c ≤ max_code
code_fits c h = ltb-false max_code c h

pub code-right : (c : ℕ) → c ≤ max_code → wrong_code c ≡ false
code-right c h = le-ltb max_code c h

pub product-fits : (c d m : ℕ) → wrong_product c d m ≡ false → ProductFits (product c d m)
product-fits c d m h = go (wrong_code c) (ltb max_deposit d) (ltb max_material m) refl refl refl h
  where
    go : (x y z : Bool) → wrong_code c ≡ x → ltb max_deposit d ≡ y → ltb max_material m ≡ z → (x || y || z) ≡ false → ProductFits (product c d m)
    go true y z p q r h = clash refl h
    go false true z p q r h = clash refl h
    go false false true p q r h = clash refl h
    go false false false p q r h = record { code = code_fits c p; deposit = ltb-false max_deposit d q; material = ltb-false max_material m r }

pub product-right : (p : Product) → ProductFits p → wrong_product p.code p.deposit p.material ≡ false
product-right p f = rw (code-right p.code f.code, le-ltb max_deposit p.deposit f.deposit, le-ltb max_material p.material f.material)
