-- What the reader and the writer are worth together. `written_read`: what the writer puts is read back as the same code. `rewritten-read`: a label that was
-- read, rewritten and read again is the same code. `length-shortest`: the writer's length is the shortest of the three that holds the code, and no label of
-- it is shorter (`label-no-shorter`). `label-right`: the check digit of a label's code is right where the label's own is.
use Prim.Native.Nat.{ℕ, zero, suc, ◌-◌, ◌^◌, ◌≤◌, ◌<◌}
use mathlib.Core.Path.{◌≡◌, refl, ap, sym, ◌∙◌}
use mathlib.Core.Bool.{true, false}
use mathlib.Core.List.{List, [], ◌∷◌, map}
use native.Mathlib.Omega.{arith}
use lib.ListN.{length, get_or, take, drop, length-map}
use lib.Seq.{take_at}
use lib.Dec.{ltb}
use borrow.Author.Tests.{le-leb, ltb-true, ltb-false}
use Rattle.model.specs.Lists.{any}
use Rattle.model.specs.Layout.{max_code}
use Rattle.model.specs.Digits.{ten, digits, number, digit_zero, digit_nine, digit_of, byte_of}
use Rattle.model.specs.CheckDigit.{code_digits, right_digits, right_check_digit}
use Rattle.model.specs.Rules.{accepted}
use Rattle.model.specs.Memory.{low, high}
use Rattle.model.specs.Labels.{gtin8, gtin13, gtin14, is_label_length, no_digit, no_label, label_code, read_reply}
use Rattle.model.specs.Labels.{label_length, label_text, written_of, written}
use Rattle.laws.specs.Tests.{cond_cases}
use Rattle.check_digits.proofs.Digits.{Decimal, digits-length, digits_decimal, number_digits, number-zeros, number-range}
use Rattle.check_digits.proofs.Caught.{right-number, number_fits}
use Rattle.labels.proofs.ReadLaws.{each-length, digit-last, same_length, label-length, label-few, label-digit, read_some}
use Rattle.labels.proofs.WriteLaws.{fits}

-- ---- bytes and digits

-- the digits of bytes are digits again
digits-of-bytes : (ds : List ℕ) → map digit_of (map byte_of ds) ≡ ds
digits-of-bytes [] = refl
digits-of-bytes (d ∷ ds) = let e : digit_of (byte_of d) ≡ d = omega arith in rw (e, digits-of-bytes ds)

bytes-of-digits : (ds : List ℕ) → Decimal ds → any no_digit (map byte_of ds) ≡ false
unfolding any
bytes-of-digits [] h = refl
bytes-of-digits (d ∷ ds) h =
    let small : d < ten = h zero in
    rw (le-leb digit_zero (byte_of d) (omega arith), le-leb (byte_of d) digit_nine (omega arith)) (bytes-of-digits ds (λ p. h (suc p)))

module _ (label : List ℕ) (h : no_label label ≡ false) where
  label-decimal : Decimal (map digit_of label)
  label-decimal p = go label (label-digit label h) p
    where
      go : (text : List ℕ) → ((i : ℕ) → i < length text → no_digit (get_or text i 0) ≡ false) → (p : ℕ) → get_or (map digit_of text) p 0 < ten
      go [] k p = omega arith
      go (b ∷ text) k zero = omega (arith, digit-last b (k zero (omega arith)))
      go (b ∷ text) k (suc p) = go text (λ i l. k (suc i) (omega arith)) p

  digits-few : length (map digit_of label) ≤ code_digits
  digits-few = omega (arith, length-map label digit_of, label-few label h)

  -- the zeros filled in do not count
  code-number : label_code label ≡ number (map digit_of label)
  unfolding label_code
  code-number = number-zeros (code_digits - length (map digit_of label)) (map digit_of label)

  pub label-right : right_check_digit (label_code label) ≡ right_digits (map digit_of label)
  label-right = ap right_check_digit code-number ∙ right-number (map digit_of label) digits-few label-decimal

  pub label-fits : label_code label ≤ max_code
  label-fits = omega (arith, code-number, number_fits (map digit_of label) digits-few label-decimal)

  -- as many digits hold it
  label-holds : label_code label < ten ^ length label
  label-holds = rw (length-map label digit_of) at (rw (sym code-number) at (number-range (map digit_of label) label-decimal))

-- ---- the writer's length

-- n is the shortest of the three lengths that holds the code
pub record Shortest (c n : ℕ) : Type 0 where
  pub one : is_label_length n ≡ true
  pub holds : c < ten ^ n
  pub least : (k : ℕ) → is_label_length k ≡ true → c < ten ^ k → n ≤ k

module _ (c : ℕ) (range : c ≤ max_code) where
  pub length-shortest : Shortest c (label_length c)
  unfolding label_length
  length-shortest =
      cond_cases (Shortest c) (ltb c (ten ^ gtin8)) (λ t. record { one = refl; holds = ltb-true c (ten ^ gtin8) t; least = λ k h b. least-8 k h })
      (λ f. cond_cases (Shortest c) (ltb c (ten ^ gtin13))
      (λ t. record { one = refl; holds = ltb-true c (ten ^ gtin13) t; least = λ k h b. least-13 k h b (ltb-false c (ten ^ gtin8) f) })
      (λ g. record { one = refl; holds = omega arith; least = λ k h b. least-14 k h b (ltb-false c (ten ^ gtin8) f) (ltb-false c (ten ^ gtin13) g) }))
    where
      least-8 : (k : ℕ) → is_label_length k ≡ true → gtin8 ≤ k
      least-8 k h = each-length (λ (n : ℕ). gtin8 ≤ n) (omega arith) (omega arith) (omega arith) k h

      least-13 : (k : ℕ) → is_label_length k ≡ true → c < ten ^ k → ten ^ gtin8 ≤ c → gtin13 ≤ k
      least-13 k h b f = each-length (λ (n : ℕ). c < ten ^ n → gtin13 ≤ n) (λ b. absurd (omega arith)) (λ b. omega arith) (λ b. omega arith) k h b

      least-14 : (k : ℕ) → is_label_length k ≡ true → c < ten ^ k → ten ^ gtin8 ≤ c → ten ^ gtin13 ≤ c → gtin14 ≤ k
      least-14 k h b f g = each-length (λ (n : ℕ). c < ten ^ n → gtin14 ≤ n) (λ b. absurd (omega arith)) (λ b. absurd (omega arith)) (λ b. omega arith) k h b

  abbrev n : ℕ
  n = label_length c

  text-length : length (label_text c) ≡ label_length c
  unfolding label_text
  text-length = length-map (digits n c) byte_of ∙ digits-length n c

  -- the label of a code is a label
  label_of : no_label (label_text c) ≡ false
  unfolding label_text
  label_of = sym (same_length (label_text c) (ap is_label_length text-length ∙ length-shortest.one)) ∙ bytes-of-digits (digits n c) (digits_decimal n c)

  -- and its code is the code
  code-of : label_code (label_text c) ≡ c
  unfolding label_text
  code-of = code-number (label_text c) label_of ∙ ap number (digits-of-bytes (digits n c)) ∙ number_digits n c length-shortest.holds

  -- ---- back again

  -- what the writer puts is read back as the same code, for every text long enough
  pub written_read : (text : List ℕ) → label_length c ≤ length text → read_reply (take (label_length c) (written text c)) ≡ accepted (low c) (high c) 0 0
  unfolding written written_of
  written_read text h =
      let put : take n (written text c) ≡ label_text c =
      ap (λ (x : ℕ). take n (written_of x text c)) (fits text c range h) ∙ take_at (label_text c) (drop n text) n text-length in
      ap read_reply put ∙ sym (read_some (label_text c) label_of) ∙ ap (λ (x : ℕ). accepted (low x) (high x) 0 0) code-of

-- a label that was read, rewritten and read again is the same code
pub rewritten-read : (label text : List ℕ) → no_label label ≡ false → label_length (label_code label) ≤ length text
    → read_reply (take (label_length (label_code label)) (written text (label_code label))) ≡ read_reply label
rewritten-read label text h k =
    written_read (label_code label) (label-fits label h) text k ∙ read_some label h

-- no label of a code is shorter than the writer's
pub label-no-shorter : (label : List ℕ) → no_label label ≡ false → label_length (label_code label) ≤ length label
label-no-shorter label h = (length-shortest (label_code label) (label-fits label h)).least (length label) (label-length label h) (label-holds label h)
