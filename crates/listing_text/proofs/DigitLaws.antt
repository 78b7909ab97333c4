-- An argument, digit by digit: what the machine makes of a word of digits, or the line is bad.
use Prim.Native.Nat.{ℕ, ◌+◌, ◌-◌, ◌*◌, ◌^◌, ◌≤◌, ◌<◌}
use mathlib.Core.Bool.{true, false}
use mathlib.Core.List.{List, [], ◌∷◌}
use mathlib.Core.Logic.{◌⊎◌, inl, inr}
use mathlib.Core.Path.{◌≡◌, refl, ap, ◌∙◌}
use native.Mathlib.Decide.{dec_lt}
use native.Mathlib.Omega.{arith}
use borrow.Author.Tests.{lt-ltb, le-ltb}
use Rattle.std.specs.Prelude.{Some}
use Rattle.std.specs.declared.option.Option.{Option}
use Rattle.model.specs.Lists.{all}
use Rattle.model.specs.Digits.{number_from, is_digit, value_from}
use Rattle.listing_text.specs.Machine.{arguing, so_far, with_digit, grown}
use Rattle.listing_text.specs.declared.command.Command.{Command}
use Rattle.listing_text.specs.declared.line.Line.{Line}
use Rattle.listing_text.specs.declared.line.Line.TheVariants.{Bad}
use Rattle.listing_text.proofs.Bools.{either, and_left, and_right, and-true}
use Rattle.listing_text.proofs.NumberLaws.{value_from-grows}
use Rattle.listing_text.proofs.MachineLaws.{grown_all, grown_all-bad}

module _ (c : Command) (vs : List ℕ) where
  -- a digit more
  pub digit-read : (v : Option ℕ) (b : ℕ) → is_digit b ≡ true → so_far v * 10 + (b - 48) < 2 ^ 64
      → grown (arguing c vs v) b ≡ arguing c vs (Some (so_far v * 10 + (b - 48)))
  unfolding grown with_digit
  digit-read v b h k = rw (h, lt-ltb (so_far v * 10 + (b - 48)) (2 ^ 64) k)

  pub digits-read : (n : ℕ) (x : List ℕ) → all is_digit x ≡ true → value_from n x < 2 ^ 64
      → grown_all (arguing c vs (Some n)) x ≡ arguing c vs (Some (value_from n x))
  unfolding grown_all all value_from number_from
  digits-read n [] h k = refl
  digits-read n (b ∷ x) h k =
      let g : n * 10 + (b - 48) ≤ value_from (n * 10 + (b - 48)) x = value_from-grows (n * 10 + (b - 48)) x in
      let e : n * 10 + (b - 48) < 2 ^ 64 = omega arith in
      ap (λ (l : Line). grown_all l x) (digit-read (Some n) b (and_left (is_digit b) (all is_digit x) h) e)
      ∙ digits-read (n * 10 + (b - 48)) x (and_right (is_digit b) (all is_digit x) h) k

  -- a byte that makes the line bad
  no_digit : (v : Option ℕ) (b : ℕ) → is_digit b ≡ false → grown (arguing c vs v) b ≡ Bad
  unfolding grown with_digit
  no_digit v b h = rw h

  too_wide : (v : Option ℕ) (b : ℕ) → is_digit b ≡ true → 2 ^ 64 ≤ so_far v * 10 + (b - 48) → grown (arguing c vs v) b ≡ Bad
  unfolding grown with_digit
  too_wide v b h k = rw (h, le-ltb (so_far v * 10 + (b - 48)) (2 ^ 64) k)

  -- a word that is no digits, or too large a number, makes the line bad
  abbrev BadAfter : Option ℕ → List ℕ → Type 0
  BadAfter v x = so_far v < 2 ^ 64 → (all is_digit x ≡ true → 2 ^ 64 ≤ value_from (so_far v) x) → grown_all (arguing c vs v) x ≡ Bad

  pub digits-bad : (v : Option ℕ) (x : List ℕ) → BadAfter v x
  unfolding grown_all all value_from number_from
  digits-bad v [] h k = absurd (let z : 2 ^ 64 ≤ so_far v = k refl in omega arith)
  digits-bad v (b ∷ x) h k = go (either (is_digit b)) (dec_lt (so_far v * 10 + (b - 48)) (2 ^ 64)) (digits-bad (Some (so_far v * 10 + (b - 48))) x)
    where
      go : (is_digit b ≡ true) ⊎ (is_digit b ≡ false) → Dec (so_far v * 10 + (b - 48) < 2 ^ 64) → BadAfter (Some (so_far v * 10 + (b - 48))) x
          → grown_all (arguing c vs v) (b ∷ x) ≡ Bad
      go (inr f) j ih = ap (λ (l : Line). grown_all l x) (no_digit v b f) ∙ grown_all-bad x
      go (inl t) (yes j) ih = ap (λ (l : Line). grown_all l x) (digit-read v b t j) ∙ ih j (λ e. k (and-true t e))
      go (inl t) (no j) ih = ap (λ (l : Line). grown_all l x) (too_wide v b t (omega arith)) ∙ grown_all-bad x
