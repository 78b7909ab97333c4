-- Sums over a list: what a change of one element does to them.
use Prim.Native.Nat.{ℕ, zero, suc, ◌+◌, ◌<◌, ◌≤◌}
use Rattle.std.specs.Prelude.{◌≡◌, length, get_or}
use Rattle.std.proofs.Math.Path.{refl}
use mathlib.Core.List.{List, [], ◌∷◌, ◌++◌, map}
use native.Mathlib.Omega.{arith}
use Rattle.model.specs.Lists.{update}

module _ {A : Type 0} where
  -- the sum of h over the elements
  abbrev pub sum : (A → ℕ) → List A → ℕ
  sum h [] = 0
  sum h (x ∷ xs) = h x + sum h xs

  pub sum-update : (h : A → ℕ) (d : A) (xs : List A) (j : ℕ) (f : A → A) → j < length xs
      → sum h (update xs j f) + h (get_or xs j d) ≡ sum h xs + h (f (get_or xs j d))
  unfolding update
  sum-update h d [] j f k = absurd (omega arith)
  sum-update h d (x ∷ xs) zero f k = omega arith
  sum-update h d (x ∷ xs) (suc j) f k = omega (arith, sum-update h d xs j f (omega arith))

  -- a change that h does not see
  pub sum-update-same : (h : A → ℕ) (d : A) (xs : List A) (j : ℕ) (f : A → A) → h (f (get_or xs j d)) ≡ h (get_or xs j d) → sum h (update xs j f) ≡ sum h xs
  unfolding update
  sum-update-same h d [] j f k = refl
  sum-update-same h d (x ∷ xs) zero f k = omega arith
  sum-update-same h d (x ∷ xs) (suc j) f k = omega (arith, sum-update-same h d xs j f k)

  -- the j-th is emptied
  pub sum-update-zero : (h : A → ℕ) (d : A) (xs : List A) (j : ℕ) (f : A → A) → h d ≡ 0 → h (f (get_or xs j d)) ≡ 0
      → sum h (update xs j f) + h (get_or xs j d) ≡ sum h xs
  unfolding update
  sum-update-zero h d [] j f z k = omega arith
  sum-update-zero h d (x ∷ xs) zero f z k = omega arith
  sum-update-zero h d (x ∷ xs) (suc j) f z k = omega (arith, sum-update-zero h d xs j f z k)

  pub sum-append : (h : A → ℕ) (xs ys : List A) → sum h (xs ++ ys) ≡ sum h xs + sum h ys
  sum-append h [] ys = omega arith
  sum-append h (x ∷ xs) ys = omega (arith, sum-append h xs ys)

  pub sum-map : (h : A → ℕ) (xs : List A) (f : A → A) → ((a : A) → h (f a) ≡ h a) → sum h (map f xs) ≡ sum h xs
  sum-map h [] f k = refl
  sum-map h (x ∷ xs) f k = omega (arith, k x, sum-map h xs f k)

  -- an element's share
  pub sum-get_or : (h : A → ℕ) (d : A) (xs : List A) (j : ℕ) → h d ≡ 0 → h (get_or xs j d) ≤ sum h xs
  sum-get_or h d [] j k = omega arith
  sum-get_or h d (x ∷ xs) zero k = omega arith
  sum-get_or h d (x ∷ xs) (suc j) k = omega (arith, sum-get_or h d xs j k)

pub sum-of-map : {A B : Type 0} (h : A → ℕ) (f : B → A) (xs : List B) → sum h (map f xs) ≡ sum (λ (x : B). h (f x)) xs
sum-of-map h f [] = refl
sum-of-map h f (x ∷ xs) = omega (arith, sum-of-map h f xs)
