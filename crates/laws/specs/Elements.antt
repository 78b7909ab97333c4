-- What holds of the elements of a list: `map`, `any`, each of them, and what `drops` leaves.
use Prim.Native.Nat.{ℕ, zero, suc, ◌≤◌, ◌<◌}
use Rattle.std.specs.Prelude.{Bool, ◌||◌, ◌≡◌, ◌⊎◌, get_or, length}
use Rattle.std.proofs.Math.Bool.{true, false}
use Rattle.std.proofs.Math.Path.{refl}
use Rattle.std.proofs.Common.{ap, sym, ◌∙◌, subst, inl, inr, arith}
use mathlib.Core.List.Memᴰ
use mathlib.Core.List.{List, [], ◌∷◌, ◌++◌, map, Memᴰ}
use Rattle.std.proofs.Math.ListN.{get_or-eq_default}
use Rattle.model.specs.Lists.{update, any, is_empty, drops}
use Rattle.laws.specs.Tests.{clash, or_left, or_right}

-- ---- map

module _ {A B : Type 0} where
  pub get_or_map : (a : A) (b : B) (f : A → B) (xs : List A) (i : ℕ) → i < length xs → get_or (map f xs) i b ≡ f (get_or xs i a)
  get_or_map a b f [] i h = absurd (omega arith)
  get_or_map a b f (x ∷ xs) zero h = refl
  get_or_map a b f (x ∷ xs) (suc i) h = get_or_map a b f xs i (omega arith)

module _ {A : Type 0} (d : A) where
  -- what holds of the default, and of each element once changed, holds of each after the change
  pub map-cases-default : (P : ℕ → A → Type 0) (xs : List A) (f : A → A)
      → ((i : ℕ) → length xs ≤ i → P i d) → ((i : ℕ) → i < length xs → P i (f (get_or xs i d))) → (i : ℕ) → P i (get_or (map f xs) i d)
  map-cases-default P [] f h k i = h i (omega arith)
  map-cases-default P (x ∷ xs) f h k zero = k 0 (omega arith)
  map-cases-default P (x ∷ xs) f h k (suc i) =
      map-cases-default (λ (n : ℕ). P (suc n)) xs f (λ n b. h (suc n) (omega arith)) (λ n b. k (suc n) (omega arith)) i

  pub map_cases : (P : ℕ → A → Type 0) (xs : List A) (f : A → A)
      → ((i : ℕ) → P i (get_or xs i d)) → ((i : ℕ) → i < length xs → P i (f (get_or xs i d))) → (i : ℕ) → P i (get_or (map f xs) i d)
  map_cases P xs f h = map-cases-default P xs f (λ i b. subst (P i) (get_or-eq_default xs d b) (h i))

  -- an element that the default is not lies within the list
  pub get_or-within : (p : A → Bool) (xs : List A) (i : ℕ) → p d ≡ false → p (get_or xs i d) ≡ true → i < length xs
  get_or-within p [] i z h = clash h z
  get_or-within p (x ∷ xs) zero z h = omega arith
  get_or-within p (x ∷ xs) (suc i) z h = omega (arith, get_or-within p xs i z h)

-- ---- what holds of each element

module _ {A : Type 0} where
  abbrev pub Each : (A → Type 0) → List A → Type 0
  Each P [] = Unit {0}
  Each P (x ∷ xs) = P x × Each P xs

  pub each_map : {B : Type 0} (P : A → Type 0) (f : B → A) (xs : List B) → ((x : B) → P (f x)) → Each P (map f xs)
  each_map P f [] h = tt
  each_map P f (x ∷ xs) h = (h x, each_map P f xs h)

  pub each-get_or : (d : A) (P : A → Type 0) (xs : List A) → Each P xs → (k : ℕ) → k < length xs → P (get_or xs k d)
  each-get_or d P [] h k b = absurd (omega arith)
  each-get_or d P (x ∷ xs) h zero b = h.0
  each-get_or d P (x ∷ xs) h (suc k) b = each-get_or d P xs h.1 k (omega arith)

-- ---- any

module _ {A : Type 0} where
  pub any-map : {B : Type 0} (p : B → Bool) (f : A → B) (xs : List A) → any p (map f xs) ≡ any (λ (a : A). p (f a)) xs
  unfolding any
  any-map p f [] = refl
  any-map p f (x ∷ xs) = rw (any-map p f xs)

  pub any_append : (p : A → Bool) (xs ys : List A) → any p (xs ++ ys) ≡ (any p xs || any p ys)
  unfolding any
  any_append p [] ys = refl
  any_append p (x ∷ xs) ys = go (p x) (any_append p xs ys)
    where
      go : (b : Bool) → any p (xs ++ ys) ≡ (any p xs || any p ys) → (b || any p (xs ++ ys)) ≡ ((b || any p xs) || any p ys)
      go true ih = refl
      go false ih = ih

  -- two changes that p does not tell apart
  pub any-update-alike : (p : A → Bool) (f g : A → A) (xs : List A) (j : ℕ) → ((a : A) → p (f a) ≡ p (g a)) → any p (update xs j f) ≡ any p (update xs j g)
  unfolding any update
  any-update-alike p f g [] j h = refl
  any-update-alike p f g (x ∷ xs) zero h = rw (h x)
  any-update-alike p f g (x ∷ xs) (suc j) h = rw (any-update-alike p f g xs j h)

  -- a change that p does not see
  pub any-update-same : (p : A → Bool) (f : A → A) (xs : List A) (j : ℕ) → ((a : A) → p (f a) ≡ p a) → any p (update xs j f) ≡ any p xs
  unfolding any update
  any-update-same p f [] j h = refl
  any-update-same p f (x ∷ xs) zero h = rw (h x)
  any-update-same p f (x ∷ xs) (suc j) h = rw (any-update-same p f xs j h)

  pub any-true : (d : A) (p : A → Bool) (xs : List A) (i : ℕ) → i < length xs → p (get_or xs i d) ≡ true → any p xs ≡ true
  unfolding any
  any-true d p [] i h k = absurd (omega arith)
  any-true d p (x ∷ xs) zero h k = or_left (p x) (any p xs) k
  any-true d p (x ∷ xs) (suc i) h k = or_right (p x) (any p xs) (any-true d p xs i (omega arith) k)

  pub any_false : (d : A) (p : A → Bool) (xs : List A) → p d ≡ false → any p xs ≡ false → (i : ℕ) → p (get_or xs i d) ≡ false
  unfolding any
  any_false d p [] z h i = z
  any_false d p (x ∷ xs) z h i = go (p x) refl (any_false d p xs z) i
    where
      go : (b : Bool) → p x ≡ b → (any p xs ≡ false → (i : ℕ) → p (get_or xs i d) ≡ false) → (i : ℕ) → p (get_or (x ∷ xs) i d) ≡ false
      go true e ih i = clash (rw e) h
      go false e ih zero = e
      go false e ih (suc i) = ih (rw e at h) i

  pub any-false-intro : (d : A) (p : A → Bool) (xs : List A) → ((i : ℕ) → p (get_or xs i d) ≡ false) → any p xs ≡ false
  unfolding any
  any-false-intro d p [] h = refl
  any-false-intro d p (x ∷ xs) h = rw (h 0) (any-false-intro d p xs (λ i. h (suc i)))

  pub is_empty-true : (xs : List A) → is_empty xs ≡ true → xs ≡ []
  unfolding is_empty
  is_empty-true [] h = refl
  is_empty-true (x ∷ xs) h = clash h refl

-- ---- what `drops` leaves

module _ {A : Type 0} (p : A → Bool) where
  pub of-drops : (a : A) (xs : List A) → Memᴰ a (drops p xs) → Memᴰ a xs × (p a ≡ false)
  unfolding drops
  of-drops a [] m = absurd (Memᴰ.not-nil m)
  of-drops a (x ∷ xs) m = go (p x) refl (of-drops a xs)
    where
      up : Memᴰ a xs × (p a ≡ false) → Memᴰ a (x ∷ xs) × (p a ≡ false)
      up h = (Memᴰ.tail h.0, h.1)

      go : (b : Bool) → p x ≡ b → (Memᴰ a (drops p xs) → Memᴰ a xs × (p a ≡ false)) → Memᴰ a (x ∷ xs) × (p a ≡ false)
      go true e ih = up (ih (rw e at m))
      go false e ih = here (Memᴰ.cases_cons n)
        where
          n : Memᴰ a (x ∷ drops p xs)
          n = rw e at m

          here : (a ≡ x) ⊎ Memᴰ a (drops p xs) → Memᴰ a (x ∷ xs) × (p a ≡ false)
          here (inl q) = (Memᴰ.head q, ap p q ∙ e)
          here (inr k) = up (ih k)

  pub to-drops : (a : A) (xs : List A) → Memᴰ a xs → p a ≡ false → Memᴰ a (drops p xs)
  unfolding drops
  to-drops a [] m h = absurd (Memᴰ.not-nil m)
  to-drops a (x ∷ xs) m h = go (p x) refl (Memᴰ.cases_cons m) (λ k. to-drops a xs k h)
    where
      go : (b : Bool) → p x ≡ b → (a ≡ x) ⊎ Memᴰ a xs → (Memᴰ a xs → Memᴰ a (drops p xs)) → Memᴰ a (drops p (x ∷ xs))
      go true e (inl q) ih = clash e (sym (ap p q) ∙ h)
      go true e (inr k) ih = rw e (ih k)
      go false e (inl q) ih = rw e (Memᴰ.head q)
      go false e (inr k) ih = rw e (Memᴰ.tail (ih k))
