-- The arguments of a line: what the machine makes of each word after the first is what `asked` makes of their values, or the line is bad.
use Prim.Native.Nat.{ℕ, suc, ◌+◌, ◌-◌, ◌*◌, ◌^◌, ◌≤◌, ◌<◌}
use mathlib.Core.Bool.{true, false, cond}
use mathlib.Core.List.{List, [], ◌∷◌, ◌++◌, map, append-nil, append_assoc}
use mathlib.Core.Logic.{◌⊎◌, inl, inr}
use mathlib.Core.Path.{◌≡◌, refl, sym, ap, ◌∙◌}
use native.Mathlib.Decide.{dec_lt}
use native.Mathlib.Omega.{arith}
use lib.ListN.{length, length-append}
use borrow.Author.Tests.{lt-ltb, le-ltb}
use Rattle.std.specs.Prelude.{None, Some}
use Rattle.model.specs.Lists.{is_empty, all}
use Rattle.model.specs.Digits.{number_from, is_digit, value, value_from}
use Rattle.listing_text.specs.Number.{is_number}
use Rattle.listing_text.specs.Call.{Parsed, bad, asked}
use Rattle.listing_text.specs.Call as listed
use Rattle.listing_text.specs.Machine.{arguing, entry, argued, ended, requested}
use Rattle.listing_text.specs.declared.command.Command.{Command}
use Rattle.listing_text.specs.declared.line.Line.{Line}
use Rattle.listing_text.specs.declared.line.Line.TheVariants.{Bad}
use Rattle.listing_text.proofs.Bools.{either, true-false, and_left, and_right, cond_same}
use Rattle.listing_text.proofs.NumberLaws.{value_from-grows}
use Rattle.listing_text.proofs.MachineLaws.{grown_all, words_fed, end-bad, word-bad}
use Rattle.listing_text.proofs.TakenLaws.{fit, fit_count, fit_wide, taken-unfit}
use Rattle.listing_text.proofs.CommandLaws.{limits-few, limits-narrow}
use Rattle.listing_text.proofs.DigitLaws.{digit-read, digits-read, digits-bad}

-- ---- arguments

-- what the arguments ws ask for after ns
abbrev pub asks : listed.Command → List ℕ → List (List ℕ) → Parsed
asks c ns ws = cond (all is_number ws) (asked c (ns ++ map value ws)) bad

asks-unfit : (c : listed.Command) (ns : List ℕ) (ws : List (List ℕ)) → fit c.limits (ns ++ map value ws) ≡ false → asks c ns ws ≡ bad
unfolding asked
asks-unfit c ns ws e =
    ap (λ (p : Parsed). cond (all is_number ws) p bad) (taken-unfit c.limits c.makes (ns ++ map value ws) e) ∙ cond_same (all is_number ws) bad

asks-no-number : (c : listed.Command) (ns x : List ℕ) (ws : List (List ℕ)) → is_number x ≡ false → asks c ns (x ∷ ws) ≡ bad
unfolding all
asks-no-number c ns x ws e = rw e

asks-number : (c : listed.Command) (ns x : List ℕ) (ws : List (List ℕ)) → is_number x ≡ true → asks c ns (x ∷ ws) ≡ asks c (ns ++ (value x ∷ [])) ws
unfolding all
asks-number c ns x ws e = rw (e, append_assoc ns (value x ∷ []) (map value ws))

value-wide : (x : List ℕ) → 2 ^ 64 ≤ value x → 2 ^ 64 ≤ value_from 0 x
unfolding value
value-wide x h = h

is-number : (b : ℕ) (x : List ℕ) → is_number (b ∷ x) ≡ all is_digit (b ∷ x)
unfolding is_number is_empty
is-number b x = refl

no_number : is_number [] ≡ false
unfolding is_number is_empty
no_number = refl

-- a number that fits 64 bits
number_read : (c : Command) (vs : List ℕ) (b : ℕ) (x : List ℕ) → all is_digit (b ∷ x) ≡ true → value (b ∷ x) < 2 ^ 64
    → grown_all (arguing c vs None) (b ∷ x) ≡ arguing c vs (Some (value (b ∷ x)))
unfolding value value_from number_from grown_all all
number_read c vs b x e k =
    let g : 0 * 10 + (b - 48) ≤ value_from (0 * 10 + (b - 48)) x = value_from-grows (0 * 10 + (b - 48)) x in
    let j : 0 * 10 + (b - 48) < 2 ^ 64 = omega arith in
    ap (λ (l : Line). grown_all l x) (digit-read c vs None b (and_left (is_digit b) (all is_digit x) e) j)
    ∙ digits-read c vs (0 * 10 + (b - 48)) x (and_right (is_digit b) (all is_digit x) e) k

-- it is an argument more where there is room, and makes the line bad where there is none
argument-read : (c : Command) (vs : List ℕ) (b : ℕ) (x : List ℕ) → length vs < 4 → all is_digit (b ∷ x) ≡ true → value (b ∷ x) < 2 ^ 64
    → ended (grown_all (arguing c vs None) (b ∷ x)) ≡ arguing c (vs ++ (value (b ∷ x) ∷ [])) None
unfolding ended argued
argument-read c vs b x h e k = ap ended (number_read c vs b x e k) ∙ rw (lt-ltb (length vs) 4 h) refl

argument-full : (c : Command) (vs : List ℕ) (b : ℕ) (x : List ℕ) → 4 ≤ length vs → all is_digit (b ∷ x) ≡ true → value (b ∷ x) < 2 ^ 64
    → ended (grown_all (arguing c vs None) (b ∷ x)) ≡ Bad
unfolding ended argued
argument-full c vs b x h e k = ap ended (number_read c vs b x e k) ∙ rw (le-ltb (length vs) 4 h) refl

-- more than four do not fit
too_many : (c : Command) (vs : List ℕ) (v : ℕ) (ns : List ℕ) → 4 ≤ length vs → fit (entry c).limits (vs ++ v ∷ ns) ≡ false
too_many c vs v ns h =
    fit_count (entry c).limits (vs ++ v ∷ ns)
    (λ q. let f : length (entry c).limits ≤ 4 = limits-few c in
    let g : length vs + suc (length ns) ≡ length (entry c).limits = simp length-append at q in
    omega arith)

-- after the numbers vs the machine reads the arguments ws as what they ask for
abbrev ReadsOn : Command → List (List ℕ) → List ℕ → Type 0
ReadsOn c ws vs = length vs ≤ 4 → requested (words_fed (arguing c vs None) ws) ≡ asks (entry c) vs ws

-- one argument more, given what those after it ask for
argument-more : (c : Command) (vs : List ℕ) (b : ℕ) (x : List ℕ) (ws : List (List ℕ))
    → (all is_digit (b ∷ x) ≡ true) ⊎ (all is_digit (b ∷ x) ≡ false) → Dec (value (b ∷ x) < 2 ^ 64) → Dec (length vs < 4)
    → ReadsOn c ws (vs ++ (value (b ∷ x) ∷ []))
    → requested (words_fed (arguing c vs None) ((b ∷ x) ∷ ws)) ≡ asks (entry c) vs ((b ∷ x) ∷ ws)
unfolding words_fed
argument-more c vs b x ws (inr f) j k ih =
    word-bad (arguing c vs None) (b ∷ x) ws (digits-bad c vs None (b ∷ x) (omega arith) (λ t. absurd (true-false (all is_digit (b ∷ x)) t f)))
    ∙ sym (asks-no-number (entry c) vs (b ∷ x) ws (is-number b x ∙ f))
argument-more c vs b x ws (inl t) (no j) k ih =
    let o : 2 ^ 64 ≤ value (b ∷ x) = omega arith in
    word-bad (arguing c vs None) (b ∷ x) ws (digits-bad c vs None (b ∷ x) (omega arith) (λ s. value-wide (b ∷ x) o))
    ∙ sym (asks-unfit (entry c) vs ((b ∷ x) ∷ ws) (fit_wide (entry c).limits vs (value (b ∷ x)) (map value ws) (limits-narrow c) o))
argument-more c vs b x ws (inl t) (yes j) (no k) ih =
    end-bad (arguing c vs None) (b ∷ x) ws (argument-full c vs b x (omega arith) t j)
    ∙ sym (asks-unfit (entry c) vs ((b ∷ x) ∷ ws) (too_many c vs (value (b ∷ x)) (map value ws) (omega arith)))
argument-more c vs b x ws (inl t) (yes j) (yes k) ih =
    ap (λ (l : Line). requested (words_fed l ws)) (argument-read c vs b x k t j)
    ∙ ih (simp length-append (omega arith))
    ∙ sym (asks-number (entry c) vs (b ∷ x) ws (is-number b x ∙ t))

pub arguments-read : (c : Command) (ws : List (List ℕ)) (vs : List ℕ) → ReadsOn c ws vs
unfolding requested words_fed all ended grown_all
arguments-read c [] vs h = ap (asked (entry c)) (sym (append-nil vs))
arguments-read c ([] ∷ ws) vs h = end-bad (arguing c vs None) [] ws refl ∙ sym (asks-no-number (entry c) vs [] ws no_number)
arguments-read c ((b ∷ x) ∷ ws) vs h =
    argument-more c vs b x ws (either (all is_digit (b ∷ x))) (dec_lt (value (b ∷ x)) (2 ^ 64)) (dec_lt (length vs) 4)
    (arguments-read c ws (vs ++ (value (b ∷ x) ∷ [])))
