-- What a right check digit is worth to an office that types labels. `mistyped-wrong`: one wrong digit is always caught. `exchanged-caught`: two neighbouring
-- digits exchanged are caught unless they differ by 5. Both for any number of digits, and every place. `right-number`: the check digit of a code is right
-- where that of the digits is which say it.
use Prim.Native.Nat.{ℕ, suc, ◌+◌, ◌-◌, ◌*◌, ◌/◌, ◌%◌, ◌^◌, ◌≤◌, ◌<◌}
use mathlib.Core.Path.{◌≡◌, refl, ap, sym, ◌∙◌}
use mathlib.Core.Logic.{◌⊎◌, inl, inr, ◌≢◌}
use mathlib.Core.Bool.{Bool, true, false, ◌||◌}
use mathlib.Core.List.{List}
use native.Mathlib.Omega.{arith}
use native.Mathlib.Nat.{add-mul-mod_self_left, pow-le-pow_right}
use lib.ListN.{length, get_or, set, length-set}
use lib.Seq.{get_or-set_other}
use lib.Dec.{eqb}
use borrow.Author.Tests.{eq-eqb, ne_eqb, eqb-true, eqb-false}
use Rattle.model.specs.Layout.{max_code}
use Rattle.model.specs.Digits.{ten, digits, number}
use Rattle.model.specs.CheckDigit.{code_digits, first_weight, second_weight, weighed, right_digits, right_check_digit}
use Rattle.laws.specs.Tests.{iff-eq, or_cases, or-else-intro}
use Rattle.check_digits.proofs.Digits.{Decimal, digits-length, digits_decimal, number_digits, number-range, digits-padded}
use Rattle.check_digits.proofs.Weights.{weight_at, weighed-set, Weights, weights-at, weighed-reverse, right-sum, right-zeros}
use Rattle.check_digits.proofs.Weights.{thirteen, right_from_left, right-thirteen}

-- ---- sums from the left, with weights 1, 3 or 3, 1

-- two numbers that differ by a multiple of m leave the same rest
same_rest : (m x q y r : ℕ) → x + m * q ≡ y + m * r → x % m ≡ y % m
same_rest m x q y r e = sym (add-mul-mod_self_left x m q) ∙ ap (λ (n : ℕ). n % m) e ∙ add-mul-mod_self_left y m r

-- digits whose sum is a multiple of ten
abbrev pub Tens : ℕ → ℕ → List ℕ → Type 0
Tens w v ds = weighed w v ds % ten ≡ 0

module _ (w v : ℕ) (weights : Weights w v) (ds : List ℕ) (h : Decimal ds) (right : Tens w v ds) where
  -- one digit is another
  pub other-digit : (p d : ℕ) → p < length ds → d < ten → d ≢ get_or ds p 0 → Tens w v (set ds p d) → ⊥
  other-digit p d k small other again = go (weights-at w v weights p)
    where
      change : weighed w v (set ds p d) + weight_at w v p * get_or ds p 0 ≡ weighed w v ds + weight_at w v p * d
      change = weighed-set w v ds p d k

      x : ℕ
      x = get_or ds p 0

      was : x < ten
      was = h p

      -- the tens of both sums
      s : ℕ
      s = weighed w v ds / ten

      t : ℕ
      t = weighed w v (set ds p d) / ten

      go : Weights (weight_at w v p) (weight_at v w p) → ⊥
      go (inl (e, _)) =
          let sums = rw e at change in
          other (omega (arith, was, same_rest ten d s x t (omega arith)))
      -- seven times: 3 × 7 is 1 where tens do not count
      go (inr (e, _)) =
          let sums = rw e at change in
          other (omega (arith, was, same_rest ten d (7 * s + 2 * d) x (7 * t + 2 * x) (omega arith)))

-- two neighbours, at places p and p + 1, exchanged
abbrev pub exchange : List ℕ → ℕ → List ℕ
exchange ds p = set (set ds p (get_or ds (suc p) 0)) (suc p) (get_or ds p 0)

pub length-exchange : (ds : List ℕ) (p : ℕ) → length (exchange ds p) ≡ length ds
length-exchange ds p = length-set (set ds p (get_or ds (suc p) 0)) (suc p) (get_or ds p 0) ∙ length-set ds p (get_or ds (suc p) 0)

-- two digits differ by 5
abbrev pub five_apart : ℕ → ℕ → Bool
five_apart a b = eqb (a + 5) b || eqb (b + 5) a

-- two digits are equal, or they differ by 5
abbrev pub equal_or_five_apart : ℕ → ℕ → Bool
equal_or_five_apart a b = eqb a b || five_apart a b

-- two digits that leave the same rest by 5
five-more : (a b : ℕ) → a < ten → b < ten → a % 5 ≡ b % 5 → (a ≡ b → ⊥) → (a + 5 ≡ b → ⊥) → b + 5 ≡ a
five-more a b ka kb e f g =
    let p : a / 5 ≤ 1 = omega arith in
    let q : b / 5 ≤ 1 = omega arith in
    omega arith

five-apart : (s t a b : ℕ) → s % ten ≡ 0 → a < ten → b < ten → (t + 2 * b ≡ s + 2 * a) ⊎ (t + 2 * a ≡ s + 2 * b)
    → eqb (t % ten) 0 ≡ equal_or_five_apart a b
five-apart s t a b h ka kb e = iff-eq (eqb (t % ten) 0) (equal_or_five_apart a b) to from
  where
    apart : (t + 2 * b ≡ s + 2 * a) ⊎ (t + 2 * a ≡ s + 2 * b) → t % ten ≡ 0 → (a ≡ b → ⊥) → (a + 5 ≡ b → ⊥) → b + 5 ≡ a
    apart (inl e) z f g = five-more a b ka kb (sym (same_rest 5 b (t / ten) a (s / ten) (omega arith))) f g
    apart (inr e) z f g = five-more a b ka kb (same_rest 5 a (t / ten) b (s / ten) (omega arith)) f g

    to : eqb (t % ten) 0 ≡ true → equal_or_five_apart a b ≡ true
    to q =
        or-else-intro (eqb a b) (five_apart a b) (λ f. or-else-intro (eqb (a + 5) b) (eqb (b + 5) a) (λ g. eq-eqb (b + 5) a
        (apart e (eqb-true (t % ten) 0 q) (eqb-false a b f) (eqb-false (a + 5) b g))))

    again : (t + 2 * b ≡ s + 2 * a) ⊎ (t + 2 * a ≡ s + 2 * b) → (2 * a) % ten ≡ (2 * b) % ten → t % ten ≡ 0
    again (inl e) z = same_rest ten t (2 * b / ten) 0 (s / ten + 2 * a / ten) (omega arith)
    again (inr e) z = same_rest ten t (2 * a / ten) 0 (s / ten + 2 * b / ten) (omega arith)

    twice : equal_or_five_apart a b ≡ true → (2 * a) % ten ≡ (2 * b) % ten
    twice q =
        or_cases (eqb a b) (five_apart a b) q (λ f. ap (λ (x : ℕ). (2 * x) % ten) (eqb-true a b f))
        (λ g. or_cases (eqb (a + 5) b) (eqb (b + 5) a) g (λ f. let f = eqb-true (a + 5) b f in omega arith) (λ f. let f = eqb-true (b + 5) a f in omega arith))

    from : equal_or_five_apart a b ≡ true → eqb (t % ten) 0 ≡ true
    from q = eq-eqb (t % ten) 0 (again e (twice q))

module _ (w v : ℕ) (weights : Weights w v) (ds : List ℕ) (h : Decimal ds) (right : Tens w v ds) (p : ℕ) (k : suc p < length ds) where
  -- two neighbours are exchanged
  pub exchange-right : eqb (weighed w v (exchange ds p) % ten) 0 ≡ equal_or_five_apart (get_or ds p 0) (get_or ds (suc p) 0)
  unfolding weight_at
  exchange-right = five-apart (weighed w v ds) (weighed w v (exchange ds p)) a b right (h p) (h (suc p)) (go (weights-at w v weights p))
    where
      a : ℕ
      a = get_or ds p 0

      b : ℕ
      b = get_or ds (suc p) 0

      first : weighed w v (set ds p b) + weight_at w v p * a ≡ weighed w v ds + weight_at w v p * b
      first = weighed-set w v ds p b (omega arith)

      second : weighed w v (exchange ds p) + weight_at v w p * b ≡ weighed w v (set ds p b) + weight_at v w p * a
      second =
          let inside : suc p < length (set ds p b) = omega (arith, length-set ds p b) in
          rw (get_or-set_other ds p (suc p) b 0 (λ e. absurd (omega arith))) at (weighed-set w v (set ds p b) (suc p) a inside)

      go : Weights (weight_at w v p) (weight_at v w p)
          → (weighed w v (exchange ds p) + 2 * b ≡ weighed w v ds + 2 * a) ⊎ (weighed w v (exchange ds p) + 2 * a ≡ weighed w v ds + 2 * b)
      go (inl (e, f)) = inl (omega (arith, rw e at first, rw f at second))
      go (inr (e, f)) = inr (omega (arith, rw e at first, rw f at second))

-- ---- a right check digit

-- counted from the left, the first of n digits weighs this, and the second that
abbrev w : ℕ → ℕ
w n = weight_at first_weight second_weight n

abbrev v : ℕ → ℕ
v n = weight_at second_weight first_weight n

-- the sum from the left decides
decided : (ds : List ℕ) (n : ℕ) → length ds ≡ n → right_digits ds ≡ eqb (weighed (w n) (v n) ds % ten) 0
decided ds n e =
    right-sum ds
    ∙ ap (λ (x : ℕ). eqb (x % ten) 0) (weighed-reverse second_weight first_weight ds ∙ ap (λ (k : ℕ). weighed (w k) (v k) ds) e)

module _ (ds : List ℕ) (h : Decimal ds) (right : right_digits ds ≡ true) where
  abbrev n : ℕ
  n = length ds

  weights : Weights (w n) (v n)
  weights = weights-at first_weight second_weight (inr (refl, refl)) n

  tens : Tens (w n) (v n) ds
  tens = eqb-true (weighed (w n) (v n) ds % ten) 0 (sym (decided ds n refl) ∙ right)

  -- one wrong digit is always caught
  pub mistyped-wrong : (p d : ℕ) → p < length ds → d < ten → d ≢ get_or ds p 0 → right_digits (set ds p d) ≡ false
  mistyped-wrong p d place digit other =
      decided (set ds p d) n (length-set ds p d)
      ∙ ne_eqb (weighed (w n) (v n) (set ds p d) % ten) 0 (other-digit (w n) (v n) weights ds h tens p d place digit other)

  module _ (p : ℕ) (place : suc p < length ds) where
    abbrev a : ℕ
    a = get_or ds p 0

    abbrev b : ℕ
    b = get_or ds (suc p) 0

    -- two neighbours exchanged pass exactly where they are equal or differ by 5
    pub exchanged-right : right_digits (exchange ds p) ≡ equal_or_five_apart (get_or ds p 0) (get_or ds (suc p) 0)
    exchanged-right = decided (exchange ds p) n (length-exchange ds p) ∙ exchange-right (w n) (v n) weights ds h tens p place

    -- two that are not equal are caught unless they differ by 5
    pub exchanged-caught : get_or ds p 0 ≢ get_or ds (suc p) 0 → right_digits (exchange ds p) ≡ five_apart (get_or ds p 0) (get_or ds (suc p) 0)
    exchanged-caught other = exchanged-right ∙ ap (λ (x : Bool). x || five_apart a b) (ne_eqb a b other)

-- ---- codes

module _ (ds : List ℕ) (few : length ds ≤ code_digits) (h : Decimal ds) where
  -- the code that at most fourteen digits say has a right check digit where they do
  pub right-number : right_check_digit (number ds) ≡ right_digits ds
  unfolding right_check_digit
  right-number = ap right_digits (digits-padded code_digits ds few h) ∙ right-zeros (code_digits - length ds) ds

  -- and it is in range
  pub number_fits : number ds ≤ max_code
  number_fits =
      let wider : ten ^ length ds ≤ ten ^ code_digits = pow-le-pow_right (omega arith) few in
      omega (arith, number-range ds h)

-- of codes of up to thirteen digits it is request 1's reading, from the left
pub right-code-thirteen : (c : ℕ) → c < ten ^ thirteen → right_check_digit c ≡ right_from_left (digits thirteen c)
right-code-thirteen c h =
    let ds = digits thirteen c in
    ap right_check_digit (sym (number_digits thirteen c h))
    ∙ right-number ds (omega (arith, digits-length thirteen c)) (digits_decimal thirteen c)
    ∙ right-thirteen ds (digits-length thirteen c)

-- codes in range are those of fourteen digits
pub code-digits : (c : ℕ) → c ≤ max_code → number (digits code_digits c) ≡ c
code-digits c h = number_digits code_digits c (omega arith)
