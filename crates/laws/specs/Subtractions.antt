-- Division by subtraction: a size is subtracted from a number until what is left is below it, at most k times. For numbers below k + 1 sizes the count is the
-- quotient, and what is left the remainder (`subtracted-divides`). First by a group of c sizes and then by the size, it is the quotient by c, and its remainder.
use Rattle.std.specs.Prelude.{ℕ, zero, suc, ◌+◌, ◌*◌, ◌-◌, ◌/◌, ◌%◌, ◌≤◌, ◌<◌, ◌≡◌, refl, Bool, true, false, cond, leb}
use Rattle.std.proofs.Common.{ap, ap₂, sym, ◌∙◌, suc-mul, mod-eq_of_lt, mul-zero, mul_comm, mod-lt, le-leb}
use native.Mathlib.Omega.{arith}
use Rattle.std.proofs.Math.Decide.{dec_lt}
use Rattle.std.proofs.Math.Nat.{div-eq_of_lt, div-eq-sub-div, mod-eq-sub-mod, div-div-eq-div-mul}
use Rattle.std.proofs.Math.Arith.{digits_div, digits_mod, mod-mul}
use Rattle.std.proofs.lemmas.Bool.{lt-leb}

-- how often the size was subtracted, and what is left
pub record Split : Type 0 where
  pub times : ℕ
  pub left : ℕ

abbrev pub split : ℕ → ℕ → Split
split t l = record { times = t; left = l }

-- t subtractions before
abbrev pub after : ℕ → Split → Split
after t s = split (t + s.times) s.left

-- the size is subtracted until what is left is below it, at most k times
unfoldable pub subtracted : (k size i : ℕ) → Split
subtracted zero size i = split 0 i
subtracted (suc k) size i = cond (leb size i) (after 1 (subtracted k size (i - size))) (split 0 i)

-- ---- once

subtracted-below : (k size i : ℕ) → i < size → subtracted k size i ≡ split 0 i
unfolding subtracted
subtracted-below zero size i h = refl
subtracted-below (suc k) size i h = rw (lt-leb size i h)

subtracted-once : (k size i : ℕ) → size ≤ i → subtracted (suc k) size i ≡ after 1 (subtracted k size (i - size))
unfolding subtracted
subtracted-once k size i h = rw (le-leb size i h)

-- ---- how often, and what is left

pub subtracted-few : (k size i : ℕ) → (subtracted k size i).times ≤ k
unfolding subtracted
subtracted-few zero size i = omega arith
subtracted-few (suc k) size i = go (leb size i) (subtracted-few k size (i - size))
  where
    go : (b : Bool) → (subtracted k size (i - size)).times ≤ k → (cond b (after 1 (subtracted k size (i - size))) (split 0 i)).times ≤ suc k
    go true few = omega arith
    go false few = omega arith

below-divides : (k size i : ℕ) → i < size → subtracted k size i ≡ split (i / size) (i % size)
below-divides k size i b = subtracted-below k size i b ∙ sym (ap₂ split (div-eq_of_lt b) (mod-eq_of_lt b))

-- a number below n sizes has a size that is not 0
some_size : (n size i : ℕ) → i < n * size → 0 < size
some_size n zero i h = absurd (omega (arith, mul-zero n))
some_size n (suc size) i h = omega arith

-- quotient and remainder
pub subtracted-divides : (k size i : ℕ) → i < suc k * size → subtracted k size i ≡ split (i / size) (i % size)
subtracted-divides zero size i h = below-divides zero size i (omega arith)
subtracted-divides (suc k) size i h =
    elim (dec_lt i size) [
      | yes b ↦ below-divides (suc k) size i b
      | no b ↦
          let goes : size ≤ i = omega arith in
          let fewer : i - size < suc k * size = omega (arith, suc-mul (suc k) size) in
          let turn : i / size ≡ 1 + (i - size) / size = omega (arith, div-eq-sub-div (some_size (suc (suc k)) size i h) goes) in
          subtracted-once k size i goes
          ∙ ap (after 1) (subtracted-divides k size (i - size) fewer)
          ∙ sym (ap₂ split turn (mod-eq-sub-mod goes))
    ]

-- ---- groups of c sizes, then sizes

-- the number of the group
pub group-divides : (c size i : ℕ) → i / (c * size) ≡ i / size / c
group-divides c size i = ap (λ (n : ℕ). i / n) (mul_comm c size) ∙ sym (div-div-eq-div-mul i size c)

-- how many sizes are in what is left of it, and what is left then
module _ (c size i : ℕ) (some-c : 1 ≤ c) (some_size : 1 ≤ size) where
  pub rest-divides : i % (c * size) / size ≡ i / size % c
  rest-divides = ap (λ (n : ℕ). n / size) (mod-mul i some-c some_size) ∙ digits_div (i / size % c) (mod-lt i some_size)

  pub rest-left : i % (c * size) % size ≡ i % size
  rest-left = ap (λ (n : ℕ). n % size) (mod-mul i some-c some_size) ∙ digits_mod (i / size % c) (mod-lt i some_size)

-- ---- the loop

-- the size was subtracted `times` times from i, and `left` is left
pub record Subtracting (k size i times left : ℕ) : Type 0 where
  pub few : times ≤ k
  pub whole : after times (subtracted (k - times) size left) ≡ subtracted k size i

pub subtracting-start : (k size i : ℕ) → Subtracting k size i 0 i
subtracting-start k size i =
    let e : k - 0 ≡ k = omega arith in
    let s = subtracted k size i in
    let c : 0 + s.times ≡ s.times = omega arith in
    record { few = omega arith; whole = ap (λ (n : ℕ). after 0 (subtracted n size i)) e ∙ ap (λ (t : ℕ). split t s.left) c }

module _ (k size i times left : ℕ) (inv : Subtracting k size i times left) where
  pub subtracting-on : times < k → size ≤ left → Subtracting k size i (times + 1) (left - size)
  subtracting-on h b = record { few = omega arith; whole = next ∙ inv.whole }
    where
      turns : k - times ≡ suc (k - (times + 1))
      turns = omega arith

      count : (t : ℕ) → times + 1 + t ≡ times + (1 + t)
      count t = omega arith

      rest : Split
      rest = subtracted (k - (times + 1)) size (left - size)

      next : after (times + 1) rest ≡ after times (subtracted (k - times) size left)
      next =
          ap (λ (t : ℕ). split t rest.left) (count rest.times)
          ∙ sym (ap (after times) (ap (λ (n : ℕ). subtracted n size left) turns ∙ subtracted-once (k - (times + 1)) size left b))

  done : subtracted (k - times) size left ≡ split 0 left → split times left ≡ subtracted k size i
  done e = let c : times + 0 ≡ times = omega arith in sym (ap (λ (t : ℕ). split t left) c) ∙ sym (ap (after times) e) ∙ inv.whole

  -- as often as it may be
  pub subtracting-most : k ≤ times → split times left ≡ subtracted k size i
  unfolding subtracted
  subtracting-most h = let e : k - times ≡ 0 = omega arith in done (ap (λ (n : ℕ). subtracted n size left) e)

  -- until what is left is below the size
  pub subtracting-below : left < size → split times left ≡ subtracted k size i
  subtracting-below h = done (subtracted-below (k - times) size left h)
