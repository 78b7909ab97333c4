-- Decimal digits, counted from the left: the last n digits of a number (the model's `digits`), the number that digits say, that the two are one to one,
-- and zeros filled in on the left.
use Prim.Native.Nat.{ℕ, zero, suc, ◌+◌, ◌-◌, ◌*◌, ◌/◌, ◌%◌, ◌^◌, ◌≤◌, ◌<◌}
use mathlib.Core.Path.{◌≡◌, refl, ap, sym, ◌∙◌}
use mathlib.Core.List.{List, [], ◌∷◌, ◌++◌, reverse, reverse-append}
use native.Mathlib.Omega.{arith}
use native.Mathlib.Nat.{mul-le-mul_right, mul_assoc, pow-suc, pow-succ'}
use lib.ListN.{length, get_or, take, set, replicate, length-append, length-replicate}
use lib.Seq.{take-suc, take_all, length-take-le}
use Rattle.model.specs.Digits.{ten, digits, number_from, number}

-- each is below ten
abbrev pub Decimal : List ℕ → Type 0
Decimal ds = (p : ℕ) → get_or ds p 0 < ten

pub decimal-set : (ds : List ℕ) (p d : ℕ) → Decimal ds → d < ten → Decimal (set ds p d)
decimal-set [] p d h k q = h q
decimal-set (x ∷ ds) zero d h k zero = k
decimal-set (x ∷ ds) zero d h k (suc q) = h (suc q)
decimal-set (x ∷ ds) (suc p) d h k zero = h zero
decimal-set (x ∷ ds) (suc p) d h k (suc q) = decimal-set ds p d (λ r. h (suc r)) k q

decimal-snoc : (ds : List ℕ) (d : ℕ) → Decimal ds → d < ten → Decimal (ds ++ d ∷ [])
decimal-snoc [] d h k zero = k
decimal-snoc [] d h k (suc p) = h zero
decimal-snoc (x ∷ ds) d h k zero = h zero
decimal-snoc (x ∷ ds) d h k (suc p) = decimal-snoc ds d (λ q. h (suc q)) k p

-- a list is its first n and one more
pub snoc_of : (n : ℕ) (ds : List ℕ) → length ds ≡ suc n → ds ≡ take n ds ++ get_or ds n 0 ∷ []
snoc_of n ds e = sym (take_all (suc n) ds (omega arith)) ∙ take-suc ds n 0 (omega arith)

-- ---- the digits of a number

pub digits-length : (n c : ℕ) → length (digits n c) ≡ n
unfolding digits
digits-length zero c = refl
digits-length (suc n) c = omega (arith, length-append (digits n (c / ten)) (c % ten ∷ []), digits-length n (c / ten))

pub digits_decimal : (n c : ℕ) → Decimal (digits n c)
unfolding digits
digits_decimal zero c p = omega arith
digits_decimal (suc n) c p = decimal-snoc (digits n (c / ten)) (c % ten) (digits_decimal n (c / ten)) (omega arith) p

-- from the right
pub digits-back : (n c : ℕ) → reverse (digits (suc n) c) ≡ c % ten ∷ reverse (digits n (c / ten))
unfolding digits
digits-back n c = reverse-append (digits n (c / ten)) (c % ten ∷ [])

-- ---- the number that digits say

number-snoc : (v : ℕ) (ds : List ℕ) (d : ℕ) → number_from v (ds ++ d ∷ []) ≡ number_from v ds * ten + d
unfolding number_from
number-snoc v [] d = refl
number-snoc v (x ∷ ds) d = number-snoc (v * ten + x) ds d

-- the digits of a number with n of them say the number
pub number_digits : (n c : ℕ) → c < ten ^ n → number (digits n c) ≡ c
unfolding digits number_from
number_digits zero c h = omega arith
number_digits (suc n) c h =
    let e : number (digits n (c / ten)) ≡ c / ten = number_digits n (c / ten) (omega (arith, pow-suc ten n)) in
    omega (arith, number-snoc 0 (digits n (c / ten)) (c % ten))

-- digits are those of the number that they say
pub digits_number : (n : ℕ) (ds : List ℕ) → length ds ≡ n → Decimal ds → digits n (number ds) ≡ ds
unfolding digits number_from
digits_number zero [] e h = refl
digits_number zero (x ∷ ds) e h = absurd (omega arith)
digits_number (suc n) ds e h =
    let xs = take n ds in
    let d = get_or ds n 0 in
    let whole : number ds ≡ number xs * ten + d = ap number (snoc_of n ds e) ∙ number-snoc 0 xs d in
    let small : d < ten = h n in
    let rest : number ds / ten ≡ number xs = omega arith in
    let last : number ds % ten ≡ d = omega arith in
    let front : digits n (number xs) ≡ xs = digits_number n xs (length-take-le n ds (omega arith)) (decimal-take n ds h) in
    rw (rest, last, front) (sym (snoc_of n ds e))
  where
    decimal-take : (n : ℕ) (ds : List ℕ) → Decimal ds → Decimal (take n ds)
    decimal-take zero ds h p = omega arith
    decimal-take (suc n) [] h p = h p
    decimal-take (suc n) (x ∷ ds) h zero = h zero
    decimal-take (suc n) (x ∷ ds) h (suc p) = decimal-take n ds (λ q. h (suc q)) p

number-below : (v : ℕ) (ds : List ℕ) → Decimal ds → number_from v ds + 1 ≤ (v + 1) * ten ^ length ds
unfolding number_from
number-below v [] h = omega arith
number-below v (d ∷ ds) h =
    let small : d < ten = h zero in
    let more : v * ten + d + 1 ≤ (v + 1) * ten = omega arith in
    let scaled : (v * ten + d + 1) * ten ^ length ds ≤ (v + 1) * ten * ten ^ length ds = mul-le-mul_right (ten ^ length ds) more in
    let whole : (v + 1) * ten ^ suc (length ds) ≡ (v + 1) * ten * ten ^ length ds = rw (pow-succ' ten (length ds)) (sym (mul_assoc (v + 1) ten (ten ^ length ds))) in
    omega (arith, number-below (v * ten + d) ds (λ p. h (suc p)))

-- a number of n digits is below the n-th power of ten
pub number-range : (ds : List ℕ) → Decimal ds → number ds < ten ^ length ds
number-range ds h = omega (arith, number-below 0 ds h)

-- ---- zeros filled in on the left

-- n digits, of which those of ds are the last
abbrev pub padded : ℕ → List ℕ → List ℕ
padded n ds = replicate (n - length ds) 0 ++ ds

pub number-zeros : (k : ℕ) (ds : List ℕ) → number (replicate k 0 ++ ds) ≡ number ds
unfolding number_from
number-zeros zero ds = refl
number-zeros (suc k) ds = number-zeros k ds

pub decimal-zeros : (k : ℕ) (ds : List ℕ) → Decimal ds → Decimal (replicate k 0 ++ ds)
decimal-zeros zero ds h p = h p
decimal-zeros (suc k) ds h zero = omega arith
decimal-zeros (suc k) ds h (suc p) = decimal-zeros k ds h p

-- the last n digits of the number that at most n digits say are those, filled with zeros
pub digits-padded : (n : ℕ) (ds : List ℕ) → length ds ≤ n → Decimal ds → digits n (number ds) ≡ padded n ds
digits-padded n ds few h =
    let zeros : List ℕ = replicate (n - length ds) 0 in
    let whole : length (padded n ds) ≡ n = omega (arith, length-append zeros ds, length-replicate {A = ℕ} (n - length ds) 0) in
    ap (digits n) (sym (number-zeros (n - length ds) ds)) ∙ digits_number n (padded n ds) whole (decimal-zeros (n - length ds) ds h)
