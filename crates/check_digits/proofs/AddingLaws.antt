-- The loop over a code's digits, from the right: what is added and what is left make the whole sum, by which the check digit is right or not.
use Prim.Native.Nat.{ℕ, suc, ◌+◌, ◌-◌, ◌*◌, ◌/◌, ◌%◌, ◌≤◌}
use mathlib.Core.Path.{◌≡◌, refl, ap, sym, ◌∙◌}
use mathlib.Core.Logic.{inl, inr}
use mathlib.Core.List.{reverse}
use native.Mathlib.Omega.{arith}
use lib.Dec.{eqb}
use Rattle.model.specs.Digits.{ten, digits}
use Rattle.model.specs.CheckDigit.{code_digits, first_weight, second_weight, weighed, right_check_digit}
use Rattle.check_digits.proofs.Digits.{digits-back}
use Rattle.check_digits.proofs.Weights.{Weights, turned, whole_sum, right-sum}

-- the last n digits of a number, which from the right weigh w, v, w, v and so on
abbrev weighed_back : ℕ → ℕ → ℕ → ℕ → ℕ
weighed_back w v n c = weighed w v (reverse (digits n c))

weighed-back : (w v n c : ℕ) → weighed_back w v (suc n) c ≡ w * (c % ten) + weighed_back v w n (c / ten)
unfolding weighed
weighed-back w v n c = ap (weighed w v) (digits-back n c)

-- the weight of a digit and that of the one before it add up to this
abbrev both_weights : ℕ
both_weights = first_weight + second_weight

-- the most that a digit adds
abbrev most_added : ℕ
most_added = first_weight * (ten - 1)

-- of rest as many digits as `left` are still to be added, the next with this weight; sum is what those before them add up to
pub record Adding (code rest weight sum left : ℕ) : Type 0 where
  pub weights : Weights weight (both_weights - weight)
  pub few : sum + most_added * left ≤ most_added * code_digits
  pub whole : sum + weighed_back weight (both_weights - weight) left rest ≡ whole_sum (digits code_digits code)

module _ (code rest weight sum left : ℕ) (k : Adding code rest weight sum left) where
  pub adding-few : weight * (rest % ten) ≤ most_added
  adding-few = go k.weights
    where
      go : Weights weight (both_weights - weight) → weight * (rest % ten) ≤ most_added
      go (inl (e, _)) = rw e (omega arith)
      go (inr (e, _)) = rw e (omega arith)

  pub adding-on : (n : ℕ) → left ≡ suc n → Adding code (rest / ten) (both_weights - weight) (sum + weight * (rest % ten)) n
  adding-on n h = record {
    weights = rw (back k.weights) (turned k.weights);
    few = omega (arith, k.few, adding-few);
    whole =
        let one = weighed-back weight (both_weights - weight) n rest in
        let so_far = ap (λ (i : ℕ). sum + weighed_back weight (both_weights - weight) i rest) (sym h) ∙ k.whole in
        rw (back k.weights) (omega (arith, one, so_far));
  }
    where
      back : Weights weight (both_weights - weight) → both_weights - (both_weights - weight) ≡ weight
      back (inl (e, _)) = omega arith
      back (inr (e, _)) = omega arith

  pub adding-done : left ≡ 0 → eqb (sum % ten) 0 ≡ right_check_digit code
  unfolding digits weighed right_check_digit
  adding-done e =
      let w : weighed_back weight (both_weights - weight) left rest ≡ 0 = ap (λ (n : ℕ). weighed_back weight (both_weights - weight) n rest) e in
      let s : sum ≡ whole_sum (digits code_digits code) = omega (arith, k.whole) in
      ap (λ (x : ℕ). eqb (x % ten) 0) s ∙ sym (right-sum (digits code_digits code))
