-- What the check digit is worth at the office's desk: in every state an entry that its lane's causes and the range let pass gets 17 if one digit of a right
-- label, of up to fourteen digits, is mistyped, or two neighbours are exchanged that are not equal and do not differ by 5.
use Prim.Native.Nat.{ℕ, suc, ◌≤◌, ◌<◌}
use mathlib.Core.Path.{◌≡◌, refl, ap, ◌∙◌}
use mathlib.Core.Logic.{◌≢◌}
use mathlib.Core.Bool.{Bool, true, false, cond, not}
use mathlib.Core.List.{List, []}
use native.Mathlib.Omega.{arith}
use lib.ListN.{length, get_or, set, length-set}
use lib.Dec.{leb}
use borrow.Author.Tests.{le-ltb}
use Rattle.model.specs.State.{State, lane_count}
use Rattle.model.specs.Layout.{max_code, max_deposit, max_material}
use Rattle.model.specs.Digits.{ten, number}
use Rattle.model.specs.CheckDigit.{code_digits, right_digits, right_check_digit}
use Rattle.model.specs.Rules.{add, replace, refused, Cause, first_cause, wrong_product, lane_of, of_lane, of_entry, causes, answer_of, answer}
use Rattle.check_digits.proofs.Digits.{Decimal, decimal-set}
use Rattle.check_digits.proofs.Caught.{exchange, length-exchange, five_apart, mistyped-wrong, exchanged-caught, right-number, number_fits}

-- an entry is refused with 17
pub record Refuses (s : State) (i c d m : ℕ) : Type 0 where
  pub added : answer s (add i c d m) ≡ refused 17
  pub replaced : answer s (replace i c d m) ≡ refused 17

-- the first of a lane's causes, and n where neither applies
abbrev lane_first : Bool → Bool → ℕ → ℕ
lane_first a b n = cond a 4 (cond b 5 n)

module _ (s : State) (i d m : ℕ) (lane : first_cause (of_lane s i []) ≡ 0) (deposit : d ≤ max_deposit) (material : m ≤ max_material) where
  -- a code in range whose check digit is wrong
  module _ (c : ℕ) (range : c ≤ max_code) (wrong : right_check_digit c ≡ false) where
    fits : wrong_product c d m ≡ false
    fits = rw (le-ltb max_code c range, le-ltb max_deposit d deposit, le-ltb max_material m material)

    first : (cs : List Cause) → first_cause (of_entry s i c d m cs) ≡ 17
    unfolding first_cause
    first cs =
        go (leb (lane_count s.sizes) i) (not (lane_of s i).online) (cond (wrong_product c d m) 11 (cond (not (right_check_digit c)) 17 (first_cause cs))) lane
        ∙ rw (fits, wrong)
      where
        go : (a b : Bool) (n : ℕ) → lane_first a b 0 ≡ 0 → lane_first a b n ≡ n
        go true b n h = absurd (omega arith)
        go false true n h = absurd (omega arith)
        go false false n h = refl

    refuses : Refuses s i c d m
    unfolding answer causes
    refuses = record {
      added = ap (λ (n : ℕ). answer_of s n (add i c d m)) (first _);
      replaced = ap (λ (n : ℕ). answer_of s n (replace i c d m)) (first _);
    }

  -- the digits of a label that is right
  module _ (ds : List ℕ) (few : length ds ≤ code_digits) (h : Decimal ds) (right : right_digits ds ≡ true) (p : ℕ) where
    abbrev a : ℕ
    a = get_or ds p 0

    abbrev b : ℕ
    b = get_or ds (suc p) 0

    -- digits of as many places that are wrong
    wrong-refused : (es : List ℕ) → length es ≡ length ds → Decimal es → right_digits es ≡ false → Refuses s i (number es) d m
    wrong-refused es e k wrong =
        let fewer : length es ≤ code_digits = omega arith in
        refuses (number es) (number_fits es fewer k) (right-number es fewer k ∙ wrong)

    pub mistyped-refused : (e : ℕ) → p < length ds → e < ten → e ≢ get_or ds p 0 → Refuses s i (number (set ds p e)) d m
    mistyped-refused e place digit other =
        wrong-refused (set ds p e) (length-set ds p e) (decimal-set ds p e h digit) (mistyped-wrong ds h right p e place digit other)

    pub exchanged-refused : suc p < length ds → get_or ds p 0 ≢ get_or ds (suc p) 0 → five_apart (get_or ds p 0) (get_or ds (suc p) 0) ≡ false
        → Refuses s i (number (exchange ds p)) d m
    exchanged-refused place other near =
        wrong-refused (exchange ds p) (length-exchange ds p)
        (decimal-set (set ds p b) (suc p) a (decimal-set ds p b h (h (suc p))) (h p)) (exchanged-caught ds h right p place other ∙ near)
