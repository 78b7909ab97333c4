-- Texts put one after the other: a number and a byte, the five of an answer, and bad.
use Prim.Native.Nat.{ℕ, ◌+◌, ◌^◌, ◌<◌}
use mathlib.Core.List.{List, [], ◌∷◌, ◌++◌, append_assoc}
use mathlib.Core.Path.{◌≡◌, ap, ◌∙◌}
use native.Mathlib.Omega.{arith}
use lib.ListN.{get_or, length-append}
use Rattle.std.specs.Fmt as std
use Rattle.model.specs.Digits.{bytes}
use Rattle.listing_text.specs.Number.{space, newline, decimal}
use Rattle.listing_text.specs.Answer.{number_length, word_length, line_length, bad_length, word_text, line_text, answer_of, bad_text, Puts}
use Rattle.listing_text.proofs.NumberLaws.{decimal_digit, decimal-same, decimal-length}

-- the digits of a number: one, or those of the library
pub puts_digit : {xs ys : List ℕ} (n : ℕ) → n < 10 → ys ≡ xs ++ (n + 48) ∷ [] → Puts number_length xs (decimal n) ys
puts_digit {xs} n h e = rw (decimal_digit n h) (record { text = e; short = omega arith })

pub puts_number : {xs ys : List ℕ} (n : ℕ) → n < 2 ^ 32 → ys ≡ xs ++ std.decimal n → Puts number_length xs (decimal n) ys
puts_number {xs} n h e = record { text = e ∙ ap (λ (l : List ℕ). xs ++ l) (decimal-same n (omega arith)); short = decimal-length n h }

-- a text after another
puts_then : {j k : ℕ} {xs s ys t zs : List ℕ} → Puts j xs s ys → Puts k ys t zs → Puts (j + k) xs (s ++ t) zs
puts_then {j} {k} {xs} {s} {ys} {t} p q =
    record {
      text = q.text ∙ ap (λ (l : List ℕ). l ++ t) p.text ∙ append_assoc xs s t;
      short = simp length-append (omega (arith, p.short, q.short));
    }

-- a number, and then a byte
pub puts_word : {xs ys zs : List ℕ} (n after : ℕ) → Puts number_length xs (decimal n) ys → zs ≡ ys ++ after ∷ [] → Puts word_length xs (word_text n after) zs
puts_word {xs} {ys} {zs} n after p e =
    let q : Puts 1 ys (after ∷ []) zs = record { text = e; short = omega arith } in
    puts_then p q

-- the five numbers of an answer
pub puts-answer : {xs ys₁ ys₂ ys₃ ys₄ ys₅ : List ℕ} (a : List ℕ)
    → Puts word_length xs (word_text (get_or a 0 0) space) ys₁ → Puts word_length ys₁ (word_text (get_or a 1 0) space) ys₂
    → Puts word_length ys₂ (word_text (get_or a 2 0) space) ys₃ → Puts word_length ys₃ (word_text (get_or a 3 0) space) ys₄
    → Puts word_length ys₄ (word_text (get_or a 4 0) newline) ys₅ → Puts line_length xs (line_text (answer_of a)) ys₅
unfolding line_text
puts-answer a w₁ w₂ w₃ w₄ w₅ = puts_then (puts_then (puts_then (puts_then w₁ w₂) w₃) w₄) w₅

pub puts-bad : {xs ys : List ℕ} → ys ≡ xs ++ (98 ∷ 97 ∷ 100 ∷ 10 ∷ []) → Puts bad_length xs bad_text ys
unfolding bad_text bytes
puts-bad e = record { text = e; short = omega arith }
