-- What is known of a text that is a label, and the loop that turns its digits into a code: the code so far, followed by the digits left, says the label's.
use Prim.Native.Nat.{ℕ, zero, suc, ◌+◌, ◌-◌, ◌*◌, ◌^◌, ◌≤◌, ◌<◌}
use mathlib.Core.Path.{◌≡◌, refl, ap, sym, ◌∙◌}
use mathlib.Core.Logic.{◌⊎◌, inl, inr}
use mathlib.Core.Bool.{Bool, true, false, not, cond, ◌||◌}
use mathlib.Core.List.{List, [], ◌∷◌, map}
use native.Mathlib.Omega.{arith}
use native.Mathlib.Nat.{pow-suc, pow-le-pow_right}
use lib.ListN.{length, get_or, drop, drop_of_length-le}
use lib.Seq.{drop-cons}
use lib.Dec.{leb, eqb}
use borrow.Author.Tests.{leb-true, eqb-true, not-false}
use Rattle.std.specs.List.{list_any}
use Rattle.std.proofs.lemmas.List.Recursion.{same_from_clauses}
use Rattle.model.specs.Lists.{any}
use Rattle.model.specs.Digits.{ten, number_from, digit_zero, digit_nine, is_digit, digit_of}
use Rattle.model.specs.CheckDigit.{code_digits}
use Rattle.model.specs.Rules.{accepted, refused, first_cause}
use Rattle.model.specs.Memory.{low, high}
use Rattle.model.specs.Labels.{gtin8, gtin13, gtin14, is_label_length, no_digit, no_label, label_code, read_refusal, read_reply_of, read_reply}
use Rattle.laws.specs.Tests.{bool_cases, clash, and-true, or_cases, or_left}
use Rattle.check_digits.proofs.Digits.{number-zeros}

-- ---- a label's length and bytes

-- the three lengths
pub each-length : (P : ℕ → Type 0) → P gtin8 → P gtin13 → P gtin14 → (n : ℕ) → is_label_length n ≡ true → P n
each-length P x y z n h =
    or_cases (eqb n gtin8 || eqb n gtin13) (eqb n gtin14) h
    (λ e. or_cases (eqb n gtin8) (eqb n gtin13) e (λ f. rw (eqb-true n gtin8 f) x) (λ f. rw (eqb-true n gtin13 f) y))
    (λ f. rw (eqb-true n gtin14 f) z)

-- the byte of a digit lies between those of 0 and 9
pub digit-first : (b : ℕ) → no_digit b ≡ false → digit_zero ≤ b
digit-first b h = leb-true digit_zero b (and-true (leb digit_zero b) (leb b digit_nine) (not-false (is_digit b) h)).0

pub digit-last : (b : ℕ) → no_digit b ≡ false → b ≤ digit_nine
digit-last b h = leb-true b digit_nine (and-true (leb digit_zero b) (leb b digit_nine) (not-false (is_digit b) h)).1

or-neither : (a b : Bool) → (a || b) ≡ false → (a ≡ false) × (b ≡ false)
or-neither true b h = clash refl h
or-neither false b h = (refl, h)

-- no byte of the text is another
none_other : (xs : List ℕ) → any no_digit xs ≡ false → (i : ℕ) → i < length xs → no_digit (get_or xs i 0) ≡ false
unfolding any
none_other [] h i k = absurd (omega arith)
none_other (x ∷ xs) h zero k = (or-neither (no_digit x) (any no_digit xs) h).0
none_other (x ∷ xs) h (suc i) k = none_other xs (or-neither (no_digit x) (any no_digit xs) h).1 i (omega arith)

module _ (text : List ℕ) where
  -- of another length
  pub other_length : is_label_length (length text) ≡ false → true ≡ no_label text
  unfolding no_label
  other_length h = sym (or_left (not (is_label_length (length text))) (any no_digit text) (ap not h))

  -- of one of the three: the bytes decide
  pub same_length : is_label_length (length text) ≡ true → any no_digit text ≡ no_label text
  unfolding no_label
  same_length h = sym (ap (λ (b : Bool). not b || any no_digit text) h)

  -- by the test b of the length, and the library's of the bytes
  module _ (b : Bool) (e : b ≡ is_label_length (length text)) where
    pub no-length : b ≡ false → not b ≡ no_label text
    no-length t = ap not t ∙ other_length (sym e ∙ t)

    pub by-bytes : b ≡ true → list_any no_digit text ≡ no_label text
    unfolding any
    by-bytes t = same_from_clauses (list_any no_digit) (any no_digit) (λ b r. no_digit b || r) refl (λ _ _. refl) (λ _ _. refl) text ∙ same_length (sym e ∙ t)

module _ (text : List ℕ) (label : no_label text ≡ false) where
  pub label-length : is_label_length (length text) ≡ true
  label-length = go (bool_cases (is_label_length (length text)))
    where
      go : (is_label_length (length text) ≡ true) ⊎ (is_label_length (length text) ≡ false) → is_label_length (length text) ≡ true
      go (inl t) = t
      go (inr f) = clash (sym (other_length text f)) label

  pub label-few : length text ≤ code_digits
  label-few = each-length (λ (n : ℕ). n ≤ code_digits) (omega arith) (omega arith) (omega arith) (length text) label-length

  pub label-digit : (i : ℕ) → i < length text → no_digit (get_or text i 0) ≡ false
  label-digit i h = none_other text (same_length text label-length ∙ label) i h

-- ---- the loop

-- the first i bytes are read, and their digits say code
pub record Reading (text : List ℕ) (code i : ℕ) : Type 0 where
  pub inside : i ≤ length text
  pub few : code < ten ^ i
  pub whole : number_from code (map digit_of (drop i text)) ≡ label_code text

pub reading-start : (text : List ℕ) → Reading text 0 0
unfolding label_code
reading-start text =
    record { inside = omega arith; few = omega arith; whole = sym (number-zeros (code_digits - length (map digit_of text)) (map digit_of text)) }

module _ (text : List ℕ) (label : no_label text ≡ false) (code i : ℕ) (k : Reading text code i) (h : i < length text) where
  -- the next digit fits
  pub reading-fits : code * ten + digit_of (get_or text i 0) < ten ^ code_digits
  reading-fits =
      let inside : suc i ≤ code_digits = omega (arith, label-few text label) in
      let wider : ten ^ suc i ≤ ten ^ code_digits = pow-le-pow_right (omega arith) inside in
      omega (arith, k.few, pow-suc ten i, digit-last (get_or text i 0) (label-digit text label i h))

  pub reading-on : Reading text (code * ten + digit_of (get_or text i 0)) (i + 1)
  unfolding number_from
  reading-on =
      let e : i + 1 ≡ suc i = omega arith in
      record {
        inside = omega arith;
        few = rw e (omega (arith, k.few, pow-suc ten i, digit-last (get_or text i 0) (label-digit text label i h)));
        whole = rw e (sym (ap (λ (l : List ℕ). number_from code (map digit_of l)) (drop-cons text i 0 h)) ∙ k.whole);
      }

pub reading-done : (text : List ℕ) (code i : ℕ) → Reading text code i → length text ≤ i → code ≡ label_code text
unfolding number_from
reading-done text code i k h = sym (ap (λ (l : List ℕ). number_from code (map digit_of l)) (drop_of_length-le text {i = i} h)) ∙ k.whole

-- ---- the ways out of the reader

pub label-accepted : (text : List ℕ) → no_label text ≡ false → read_refusal text ≡ 0
unfolding read_refusal first_cause
label-accepted text e = rw e

pub read-accepted : (text : List ℕ) → read_refusal text ≡ 0 → no_label text ≡ false
unfolding read_refusal first_cause
read-accepted text h = go (no_label text) h
  where
    go : (b : Bool) → ◌≡◌ {A = ℕ} (cond b 18 0) 0 → b ≡ false
    go true e = absurd (omega arith)
    go false e = refl

module _ (text : List ℕ) where
  pub read_none : no_label text ≡ true → refused 18 ≡ read_reply text
  unfolding read_reply read_refusal first_cause read_reply_of
  read_none e = rw e

  pub read_some : no_label text ≡ false → accepted (low (label_code text)) (high (label_code text)) 0 0 ≡ read_reply text
  unfolding read_reply read_refusal first_cause read_reply_of
  read_some e = rw e
