-- Decimal numbers: the digits of a number have its value, none in front is 0, and a number of 32 bits has at most ten.
use Prim.Native.Nat.{ℕ, zero, suc, ◌+◌, ◌-◌, ◌*◌, ◌/◌, ◌%◌, ◌^◌, ◌≤◌, ◌<◌}
use mathlib.Core.List.{List, [], ◌∷◌, ◌++◌}
use mathlib.Core.Path.{◌≡◌, refl, sym, ap, ◌∙◌}
use native.Mathlib.Nat.{le_refl, le_trans, add_comm}
use native.Mathlib.Decide.{dec_lt}
use native.Mathlib.Omega.{arith}
use lib.ListN.{length}
use Rattle.std.specs.Fmt as std
use Rattle.std.proofs.lemmas.Fmt.{decimal_by_steps, length-decimal-le}
use borrow.Author.Tests.{lt-ltb, le-ltb}
use Rattle.model.specs.Digits.{number_from, value_from}
use Rattle.listing_text.specs.Number.{decimal, decimal_in}

-- ---- values

-- digits that follow make a number no smaller
pub value_from-grows : (v : ℕ) (w : List ℕ) → v ≤ value_from v w
unfolding value_from number_from
value_from-grows v [] = le_refl v
value_from-grows v (b ∷ w) =
    let h : v ≤ v * 10 + (b - 48) = omega arith in
    le_trans h (value_from-grows (v * 10 + (b - 48)) w)

-- ---- digits

pub decimal_in-digit : (k n : ℕ) → n < 10 → decimal_in k n ≡ (n + 48) ∷ []
unfolding decimal_in
decimal_in-digit zero n h = refl
decimal_in-digit (suc k) n h = rw (lt-ltb n 10 h)

pub decimal_in-more : (k n : ℕ) → 10 ≤ n → decimal_in (suc k) n ≡ decimal_in k (n / 10) ++ ((n % 10 + 48) ∷ [])
unfolding decimal_in
decimal_in-more k n h = rw (le-ltb n 10 h)

-- how many digits may follow does not matter once it is n
decimal_in-enough : (j k n : ℕ) → n ≤ j → n ≤ k → decimal_in j n ≡ decimal_in k n
decimal_in-enough zero k n hj hk = decimal_in-digit zero n (omega arith) ∙ sym (decimal_in-digit k n (omega arith))
decimal_in-enough (suc j) zero n hj hk = decimal_in-digit (suc j) n (omega arith) ∙ sym (decimal_in-digit zero n (omega arith))
decimal_in-enough (suc j) (suc k) n hj hk = go (dec_lt n 10) (decimal_in-enough j k (n / 10))
  where
    go : Dec (n < 10) → (n / 10 ≤ j → n / 10 ≤ k → decimal_in j (n / 10) ≡ decimal_in k (n / 10)) → decimal_in (suc j) n ≡ decimal_in (suc k) n
    go (yes h) ih = decimal_in-digit (suc j) n h ∙ sym (decimal_in-digit (suc k) n h)
    go (no h) ih =
        let t : 10 ≤ n = omega arith in
        decimal_in-more j n t ∙ ap (λ (l : List ℕ). l ++ ((n % 10 + 48) ∷ [])) (ih (omega arith) (omega arith)) ∙ sym (decimal_in-more k n t)

pub decimal_digit : (n : ℕ) → n < 10 → decimal n ≡ (n + 48) ∷ []
unfolding decimal
decimal_digit n h = decimal_in-digit n n h

pub decimal-more : (n : ℕ) → 10 ≤ n → decimal n ≡ decimal (n / 10) ++ ((n % 10 + 48) ∷ [])
unfolding decimal
decimal-more zero h = absurd (omega arith)
decimal-more (suc k) h =
    decimal_in-more k (suc k) h
    ∙ ap (λ (l : List ℕ). l ++ ((suc k % 10 + 48) ∷ [])) (decimal_in-enough k (suc k / 10) (suc k / 10) (omega arith) (omega arith))

-- the library's digits are these, and ten at most for a number of 32 bits
pub decimal-same : (n : ℕ) → n < 2 ^ 64 → std.decimal n ≡ decimal n
decimal-same n h =
    decimal_by_steps (λ m ds. ds ≡ decimal m) (λ m k. ap (λ (d : ℕ). d ∷ []) (add_comm 48 m) ∙ sym (decimal_digit m k))
    (λ m ds k e. ap (λ (l : List ℕ). l ++ ((48 + m % 10) ∷ [])) e ∙ ap (λ (d : ℕ). decimal (m / 10) ++ (d ∷ [])) (add_comm 48 (m % 10)) ∙ sym (decimal-more m k)) n h

pub decimal-length : (n : ℕ) → n < 2 ^ 32 → length (decimal n) ≤ 10
decimal-length n h = rw (← decimal-same n (omega arith)) (length-decimal-le 10 n (omega arith) (omega arith) (omega arith))
