-- Weighted sums of digits: of another digit, of one more, and from either end. A check digit is right where the whole sum is a multiple of ten
-- (`right-sum`); zeros filled in on the left never change whether it is (`right-zeros`); over thirteen digits that is request 1's reading from the left
-- (`right-thirteen`).
use Prim.Native.Nat.{ℕ, zero, suc, ◌+◌, ◌-◌, ◌*◌, ◌%◌, ◌<◌}
use mathlib.Core.Path.{◌≡◌, refl, ap, sym, ◌∙◌}
use mathlib.Core.Logic.{◌⊎◌, inl, inr}
use mathlib.Core.Bool.{Bool}
use mathlib.Core.List.{List, [], ◌∷◌, ◌++◌, reverse, reverse-cons}
use native.Mathlib.Omega.{arith}
use lib.ListN.{length, get_or, take, set, replicate, length-reverse}
use lib.Seq.{length-take-le}
use lib.Dec.{eqb}
use Rattle.model.specs.Digits.{ten}
use Rattle.model.specs.CheckDigit.{first_weight, second_weight, weighed, right_from_right, right_digits}
use Rattle.check_digits.proofs.Digits.{snoc_of}

-- ---- weights

-- the weight of place p
unfoldable pub weight_at : ℕ → ℕ → ℕ → ℕ
weight_at w v zero = w
weight_at w v (suc p) = weight_at v w p

-- a digit more at the end
pub weighed-snoc : (w v : ℕ) (ds : List ℕ) (d : ℕ) → weighed w v (ds ++ d ∷ []) ≡ weighed w v ds + weight_at w v (length ds) * d
unfolding weighed weight_at
weighed-snoc w v [] d = omega arith
weighed-snoc w v (x ∷ ds) d = omega (arith, weighed-snoc v w ds d)

-- another digit at place p
pub weighed-set : (w v : ℕ) (ds : List ℕ) (p d : ℕ) → p < length ds
    → weighed w v (set ds p d) + weight_at w v p * get_or ds p 0 ≡ weighed w v ds + weight_at w v p * d
unfolding weighed weight_at
weighed-set w v [] p d h = absurd (omega arith)
weighed-set w v (x ∷ ds) zero d h = omega arith
weighed-set w v (x ∷ ds) (suc p) d h = omega (arith, weighed-set v w ds p d (omega arith))

-- the weights of two neighbours, in either order
abbrev pub Weights : ℕ → ℕ → Type 0
Weights w v = ((w ≡ second_weight) × (v ≡ first_weight)) ⊎ ((w ≡ first_weight) × (v ≡ second_weight))

pub turned : {w v : ℕ} → Weights w v → Weights v w
turned (inl (a, b)) = inr (b, a)
turned (inr (a, b)) = inl (b, a)

pub weights-at : (w v : ℕ) → Weights w v → (p : ℕ) → Weights (weight_at w v p) (weight_at v w p)
unfolding weight_at
weights-at w v h zero = h
weights-at w v h (suc p) = weights-at v w (turned h) p

-- ---- from either end

-- the sum from the right is one from the left, which begins with the weight that the first digit has
pub weighed-reverse : (w v : ℕ) (ds : List ℕ) → weighed w v (reverse ds) ≡ weighed (weight_at v w (length ds)) (weight_at w v (length ds)) ds
unfolding weighed weight_at
weighed-reverse w v [] = refl
weighed-reverse w v (d ∷ ds) =
    let last : weight_at w v (length (reverse ds)) ≡ weight_at w v (length ds) = ap (weight_at w v) (length-reverse ds) in
    let one = rw last at (weighed-snoc w v (reverse ds) d) in
    ap (weighed w v) (reverse-cons d ds) ∙ omega (arith, one, weighed-reverse w v ds)

-- ---- the test of a check digit, on the whole sum

-- what all digits add up to, the check digit too, which weighs as the second next to it
abbrev pub whole_sum : List ℕ → ℕ
whole_sum ds = weighed second_weight first_weight (reverse ds)

pub right-sum : (ds : List ℕ) → right_digits ds ≡ eqb (whole_sum ds % ten) 0
unfolding right_digits right_from_right weighed
right-sum ds = go (reverse ds)
  where
    go : (back : List ℕ) → right_from_right back ≡ eqb (weighed second_weight first_weight back % ten) 0
    go [] = refl
    go (check ∷ back) =
        let s : weighed first_weight second_weight back + check ≡ second_weight * check + weighed first_weight second_weight back = omega arith in
        ap (λ (x : ℕ). eqb (x % ten) 0) s

-- zeros filled in on the left never change whether a check digit is right, for any number of digits and of zeros
pub right-zeros : (k : ℕ) (ds : List ℕ) → right_digits (replicate k 0 ++ ds) ≡ right_digits ds
right-zeros k ds = right-sum (replicate k 0 ++ ds) ∙ ap (λ (x : ℕ). eqb (x % ten) 0) (go k) ∙ sym (right-sum ds)
  where
    go : (k : ℕ) → whole_sum (replicate k 0 ++ ds) ≡ whole_sum ds
    go zero = refl
    go (suc k) =
        let more = replicate k 0 ++ ds in
        ap (weighed second_weight first_weight) (reverse-cons 0 more) ∙ omega (arith, weighed-snoc second_weight first_weight (reverse more) 0, go k)

-- ---- request 1, over thirteen digits

abbrev pub thirteen : ℕ
thirteen = 13

-- counted from the left, the first twelve digits weigh 1, 3, 1, 3 and so on; the thirteenth brings the sum to a multiple of ten
unfoldable pub right_from_left : List ℕ → Bool
right_from_left ds =
    let check_at = thirteen - 1 in
    eqb ((weighed 1 3 (take check_at ds) + get_or ds check_at 0) % ten) 0

-- it is the same reading
pub right-thirteen : (ds : List ℕ) → length ds ≡ thirteen → right_digits ds ≡ right_from_left ds
unfolding right_from_left weight_at
right-thirteen ds e = right-sum ds ∙ ap (λ (x : ℕ). eqb (x % ten) 0) sums
  where
    check_at : ℕ
    check_at = thirteen - 1

    first : weight_at first_weight second_weight (length ds) ≡ second_weight
    first = ap (weight_at first_weight second_weight) e

    second : weight_at second_weight first_weight (length ds) ≡ first_weight
    second = ap (weight_at second_weight first_weight) e

    -- from the left over all thirteen
    left : whole_sum ds ≡ weighed second_weight first_weight ds
    left = rw (first, second) at (weighed-reverse second_weight first_weight ds)

    len : length (take check_at ds) ≡ check_at
    len = length-take-le check_at ds (omega arith)

    last : weight_at second_weight first_weight (length (take check_at ds)) ≡ second_weight
    last = ap (weight_at second_weight first_weight) len

    whole : weighed second_weight first_weight ds ≡ weighed second_weight first_weight (take check_at ds) + get_or ds check_at 0
    whole =
        let snoc = rw last at (weighed-snoc second_weight first_weight (take check_at ds) (get_or ds check_at 0)) in
        ap (weighed second_weight first_weight) (snoc_of check_at ds e) ∙ omega (arith, snoc)

    sums : whole_sum ds ≡ weighed second_weight first_weight (take check_at ds) + get_or ds check_at 0
    sums = left ∙ whole
