-- No value twice, by counts; a list with each number below n once has n elements.
use Rattle.std.specs.Prelude.{ℕ, zero, suc, ◌+◌, ◌≤◌, ◌<◌, Bool, ◌≡◌, ◌⊎◌, ◌≢◌, length, eqb}
use Rattle.std.proofs.Math.Bool.{true, false}
use Rattle.std.proofs.Math.Path.{refl}
use Rattle.std.proofs.Common.{ap, sym, ◌∙◌, inl, inr, arith, eq-eqb, ne_eqb}
use mathlib.Core.List.{List, [], ◌∷◌, map}
use Rattle.model.specs.Lists.{count, member, distinct}
use Rattle.laws.specs.Tests.{clash, or_right, same, other, decide}
use Rattle.laws.specs.Counts.{count-self, count-cons}

-- ---- no value twice

module _ (f : ℕ → ℕ) where
  member-map-false : (c : ℕ) (xs : List ℕ) → ((y : ℕ) → 0 < count y xs → c ≢ f y) → member c (map f xs) ≡ false
  unfolding count member
  member-map-false c [] h = refl
  member-map-false c (y ∷ xs) h = rw (ne_eqb c (f y) (h y (omega (arith, count-self y xs)))) (member-map-false c xs (λ z b. h z (omega arith)))

  member-map-true : (xs : List ℕ) (x : ℕ) → 0 < count x xs → member (f x) (map f xs) ≡ true
  unfolding count member
  member-map-true [] x b = absurd (omega arith)
  member-map-true (y ∷ xs) x b =
      elim (decide x y) [
        | same e t u ↦ rw (eq-eqb (f x) (f y) (ap f e))
        | other e t u ↦ or_right (eqb (f x) (f y)) (member (f x) (map f xs)) (member-map-true xs x (let k : 0 < 0 + count x xs = rw t at b in omega arith))
      ]

  pub distinct-map-intro : (xs : List ℕ) → ((x : ℕ) → count x xs ≤ 1) → ((x y : ℕ) → 0 < count x xs → 0 < count y xs → f x ≡ f y → x ≡ y)
      → distinct (map f xs) ≡ true
  unfolding count distinct
  distinct-map-intro [] u h = refl
  distinct-map-intro (x ∷ xs) u h =
      rw (member-map-false (f x) xs fresh, distinct) (distinct-map-intro xs (λ y. omega (arith, u y)) (λ y z a b e. h y z (omega arith) (omega arith) e))
    where
      fresh : (y : ℕ) → 0 < count y xs → f x ≢ f y
      fresh y b e =
          let q : x ≡ y = h x y (omega (arith, count-self x xs)) (omega arith) e in
          let k : 0 < count x xs = rw q b in
          omega (arith, u x, count-self x xs)

  pub distinct-map : (xs : List ℕ) → distinct (map f xs) ≡ true → (x y : ℕ) → 0 < count x xs → 0 < count y xs → f x ≡ f y → x ≡ y
  unfolding count distinct
  distinct-map [] h x y a b e = absurd (omega arith)
  distinct-map (z ∷ xs) h x y a b e = go (λ r c d. distinct-map xs r x y c d e) (member (f z) (map f xs)) refl
    where
      go : (distinct (map f xs) ≡ true → 0 < count x xs → 0 < count y xs → x ≡ y) → (t : Bool) → member (f z) (map f xs) ≡ t → x ≡ y
      go ih true q = let k : false ≡ true = rw (q, distinct) at h in clash k refl
      go ih false q = ends (count-cons x z xs a) (count-cons y z xs b)
        where
          rest : distinct (map f xs) ≡ true
          rest = rw (q, distinct) at h

          ends : (x ≡ z) ⊎ (0 < count x xs) → (y ≡ z) ⊎ (0 < count y xs) → x ≡ y
          ends (inl c) (inl d) = c ∙ sym d
          ends (inl c) (inr d) = clash (ap (λ (v : ℕ). member v (map f xs)) (sym (ap f c) ∙ e) ∙ member-map-true xs y d) q
          ends (inr c) (inl d) = clash (ap (λ (v : ℕ). member v (map f xs)) (sym (ap f d) ∙ sym e) ∙ member-map-true xs x c) q
          ends (inr c) (inr d) = ih rest c d

-- ---- a list with each number below n once has n elements

-- how many elements are below n
abbrev count_below : ℕ → List ℕ → ℕ
count_below zero xs = 0
count_below (suc n) xs = count_below n xs + count n xs

count_below-nil : (n : ℕ) → count_below n [] ≡ 0
unfolding count
count_below-nil zero = refl
count_below-nil (suc n) = omega (arith, count_below-nil n)

count_below-above : (n x : ℕ) (xs : List ℕ) → n ≤ x → count_below n (x ∷ xs) ≡ count_below n xs
unfolding count
count_below-above zero x xs h = refl
count_below-above (suc n) x xs h = rw (count_below-above n x xs (omega arith), ne_eqb n x (λ q. omega arith)) (omega arith)

count_below-cons : (n x : ℕ) (xs : List ℕ) → x < n → count_below n (x ∷ xs) ≡ suc (count_below n xs)
unfolding count
count_below-cons zero x xs h = absurd (omega arith)
count_below-cons (suc n) x xs h =
    elim (decide n x) [
      | same e t u ↦ rw (count_below-above n x xs (omega arith), t) (omega arith)
      | other e t u ↦ rw (count_below-cons n x xs (omega arith), t) (omega arith)
    ]

count_below-length : (n : ℕ) (xs : List ℕ) → ((x : ℕ) → 0 < count x xs → x < n) → count_below n xs ≡ length xs
unfolding count
count_below-length n [] h = count_below-nil n
count_below-length n (x ∷ xs) h = count_below-cons n x xs (h x (omega (arith, count-self x xs))) ∙ ap suc (count_below-length n xs (λ y b. h y (omega arith)))

count_below-once : (n : ℕ) (xs : List ℕ) → ((x : ℕ) → x < n → count x xs ≡ 1) → count_below n xs ≡ n
count_below-once zero xs h = refl
count_below-once (suc n) xs h = omega (arith, count_below-once n xs (λ x b. h x (omega arith)), h n (omega arith))

count_below-most : (n : ℕ) (xs : List ℕ) → ((x : ℕ) → count x xs ≤ 1) → count_below n xs ≤ n
count_below-most zero xs h = omega arith
count_below-most (suc n) xs h = omega (arith, count_below-most n xs h, h n)

pub length-once : (n : ℕ) (xs : List ℕ) → ((x : ℕ) → 0 < count x xs → x < n) → ((x : ℕ) → x < n → count x xs ≡ 1) → length xs ≡ n
length-once n xs h k = sym (count_below-length n xs h) ∙ count_below-once n xs k

pub length-at-most : (n : ℕ) (xs : List ℕ) → ((x : ℕ) → 0 < count x xs → x < n) → ((x : ℕ) → count x xs ≤ 1) → length xs ≤ n
length-at-most n xs h k = omega (arith, count_below-length n xs h, count_below-most n xs k)
