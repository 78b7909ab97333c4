-- What a loop knows of the elements that it has met: their sum, whether one of them has a property, and whether all have. Each turn takes the first of
-- those that are left.
use Prim.Native.Nat.{ℕ, zero, suc, ◌+◌, ◌*◌, ◌-◌, ◌≤◌, ◌<◌}
use Rattle.std.specs.Prelude.{◌≡◌, Bool, true, false, ◌&&◌, ◌||◌, length, get_or, drop}
use Rattle.std.proofs.Math.Path.{refl, ap, sym}
use Rattle.std.proofs.Common.{◌∙◌, drop_of_length-le}
use native.Mathlib.Omega.{arith}
use mathlib.Core.List.{List, [], ◌∷◌}
use Rattle.model.specs.Lists.{from, all, any}
use Rattle.laws.specs.ListLaws.{map-from-alike}
use Rattle.laws.specs.Sums.{sum, sum-of-map}

-- ---- sums

-- the sum of f over the numbers below n
abbrev pub sum_below : (ℕ → ℕ) → ℕ → ℕ
sum_below f n = sum f (from 0 n)

-- over those from i on
abbrev sum_from : (ℕ → ℕ) → ℕ → ℕ → ℕ
sum_from f i n = sum f (from i (n - i))

-- t is what those before i add up to
pub record Summed (f : ℕ → ℕ) (n i t : ℕ) : Type 0 where
  pub so_far : t + sum_from f i n ≡ sum_below f n

module _ (f : ℕ → ℕ) (n : ℕ) where
  pub summed-start : Summed f n 0 0
  summed-start = let e : n - 0 ≡ n = omega arith in record { so_far = rw e (omega arith) }

  module _ (i t : ℕ) (k : Summed f n i t) where
    -- v is the next
    pub summed-on : i < n → (v : ℕ) → v ≡ f i → Summed f n (i + 1) (t + v)
    unfolding from
    summed-on h v e = record { so_far = omega (arith, k.so_far, next) }
      where
        next : sum_from f i n ≡ f i + sum_from f (i + 1) n
        next =
            let d : n - i ≡ suc (n - (i + 1)) = omega arith in
            let g : suc i ≡ i + 1 = omega arith in
            ap (λ (x : ℕ). sum f (from i x)) d ∙ ap (λ (x : ℕ). f i + sum f (from x (n - (i + 1)))) g

    pub summed-done : n ≤ i → t ≡ sum_below f n
    unfolding from
    summed-done h =
        let d : n - i ≡ 0 = omega arith in
        let g : sum_from f i n ≡ 0 = ap (λ (x : ℕ). sum f (from i x)) d in
        omega (arith, k.so_far)

pub sum_below-alike : (f g : ℕ → ℕ) (n : ℕ) → ((k : ℕ) → k < n → f k ≡ g k) → sum_below f n ≡ sum_below g n
sum_below-alike f g n h =
    sym (sum-of-map (λ (x : ℕ). x) f (from 0 n))
    ∙ ap (sum (λ (x : ℕ). x)) (map-from-alike f g 0 n (λ k a b. h k (omega arith)))
    ∙ sum-of-map (λ (x : ℕ). x) g (from 0 n)

-- each of them is at most b
pub sum_below-few : (f : ℕ → ℕ) (b n : ℕ) → ((k : ℕ) → k < n → f k ≤ b) → sum_below f n ≤ b * n
unfolding from
sum_below-few f b n h = go 0 n (λ k a c. h k (omega arith))
  where
    go : (i d : ℕ) → ((k : ℕ) → i ≤ k → k < i + d → f k ≤ b) → sum f (from i d) ≤ b * d
    go i zero g = omega arith
    go i (suc d) g = omega (arith, g i (omega arith) (omega arith), go (suc i) d (λ k a c. g k (omega arith) (omega arith)))

-- ---- whether an element has p: those before i have not

module _ {A : Type 0} (p : A → Bool) (d : A) where
  any-from : (i : ℕ) (xs : List A) → i < length xs → any p (drop i xs) ≡ (p (get_or xs i d) || any p (drop (suc i) xs))
  unfolding any
  any-from i [] h = absurd (omega arith)
  any-from zero (x ∷ xs) h = refl
  any-from (suc i) (x ∷ xs) h = any-from i xs (omega arith)

  module _ (xs : List A) (i : ℕ) (inv : any p (drop i xs) ≡ any p xs) where
    pub any_found : i < length xs → (b : Bool) → b ≡ p (get_or xs i d) → b ≡ true → true ≡ any p xs
    any_found h b e q = sym (sym inv ∙ any-from i xs h ∙ ap (λ (x : Bool). x || any p (drop (suc i) xs)) (sym e ∙ q))

    pub any_next : i < length xs → (b : Bool) → b ≡ p (get_or xs i d) → b ≡ false → any p (drop (i + 1) xs) ≡ any p xs
    any_next h b e q =
        let u : i + 1 ≡ suc i = omega arith in
        ap (λ (j : ℕ). any p (drop j xs)) u ∙ sym (any-from i xs h ∙ ap (λ (x : Bool). x || any p (drop (suc i) xs)) (sym e ∙ q)) ∙ inv

    pub any_none : (n : ℕ) → length xs ≡ n → n ≤ i → false ≡ any p xs
    unfolding any
    any_none n e h = sym (ap (any p) (drop_of_length-le xs {i = i} (omega arith))) ∙ inv

-- ---- whether all have p: of a, a + 1, .. n are left, and w is what `all` says of them

module _ (p : ℕ → Bool) (a n : ℕ) (w : Bool) (inv : all p (from a n) ≡ w) where
  pub all_end : n ≤ 0 → true ≡ w
  unfolding all from
  all_end h = let e : n ≡ 0 = omega arith in sym (ap (λ (k : ℕ). all p (from a k)) e) ∙ inv

  module _ (h : 0 < n) where
    one : all p (from a n) ≡ (p a && all p (from (a + 1) (n - 1)))
    unfolding all from
    one = go n h
      where
        go : (n : ℕ) → 0 < n → all p (from a n) ≡ (p a && all p (from (a + 1) (n - 1)))
        go zero h = absurd (omega arith)
        go (suc n) h =
            let e : suc n - 1 ≡ n = omega arith in
            let f : a + 1 ≡ suc a = omega arith in
            rw (e, f)

    pub all-fails : (r : Bool) → r ≡ p a → r ≡ false → false ≡ w
    all-fails r q e = sym (one ∙ ap (λ (b : Bool). b && all p (from (a + 1) (n - 1))) (sym q ∙ e)) ∙ inv

    pub all-on : (r : Bool) → r ≡ p a → r ≡ true → all p (from (a + 1) (n - 1)) ≡ w
    all-on r q e = sym (one ∙ ap (λ (b : Bool). b && all p (from (a + 1) (n - 1))) (sym q ∙ e)) ∙ inv
