-- One flag of a mask set, tested and cleared, flags counted, and the first of them, as MIR's operations give them.
use Rattle.std.specs.Prelude.{ℕ, zero, suc, ◌+◌, ◌*◌, ◌-◌, ◌/◌, ◌%◌, ◌^◌, ◌≤◌, ◌<◌, min, Bool, true, false, cond, ◌||◌, ◌≡◌, refl, List, [], ◌∷◌, length, get_or, set}
use Rattle.std.proofs.Common.{ap, ap₂, sym, ◌∙◌, arith, mod-lt, pow_pos, pow_mono, shl_exact}
use Rattle.std.proofs.Math.Arith.{lt-one}
use Rattle.std.proofs.Math.Pow.{pow-lt, split}
use Rattle.std.specs.Int.Bits.{bit_and, bit_or, and_step, and_zero_r, or_add_and}
use Rattle.std.proofs.lemmas.Nat.{and_block, and_mask}
use Rattle.std.specs.Int.Count.{ones, ones_step, count_trailing_zeros, under, trailing_of_zero}
use Rattle.model.specs.Word.{word_bits}
use Rattle.model.specs.Lists.{any, mask, bit}
use Rattle.model.specs.Memory.{flag}
use Rattle.laws.specs.Tests.{clash}
use Rattle.laws.specs.Sums.{sum}
use Rattle.laws.specs.Masks.{bit-flag, pow-twice, bit-pow, mask-mod, mask-div, flag-mask, mask_lt, some, mask-none}

-- ---- one flag set, tested, cleared

-- a bit shifted to place p, in a word
pub shl-bit : (p : ℕ) → p < word_bits → (1 * 2 ^ p) % 2 ^ word_bits ≡ 2 ^ p
shl-bit p h = shl_exact 1 p word_bits (omega arith) (omega arith) ∙ omega arith

pub mask-set : (bs : List Bool) (p : ℕ) (b : Bool) → p < length bs → mask (set bs p b) + bit (get_or bs p false) * 2 ^ p ≡ mask bs + bit b * 2 ^ p
unfolding mask
mask-set [] p b h = absurd (omega arith)
mask-set (c ∷ bs) zero b h = omega arith
mask-set (c ∷ bs) (suc p) b h = omega (arith, mask-set bs p b (omega arith), bit-pow b p, bit-pow (get_or bs p false) p)

pub and-bit : (w p : ℕ) → bit_and w (2 ^ p) ≡ bit (flag p w) * 2 ^ p
and-bit w p =
    ap₂ bit_and (sym (split w p)) (let e : 2 ^ p ≡ 1 * 2 ^ p + 0 = omega arith in e)
    ∙ and_block p (w / 2 ^ p) 1 (w % 2 ^ p) 0 (mod-lt w (pow_pos p)) (pow_pos p)
    ∙ ap₂ (λ (x y : ℕ). x * 2 ^ p + y) (and_mask (w / 2 ^ p) 1 ∙ sym (bit-flag p w)) (and_zero_r (w % 2 ^ p))
    ∙ omega arith

-- `(w >> p) & 1`
pub shr_and_one : (w p : ℕ) → bit_and (w / 2 ^ p) 1 ≡ bit (flag p w)
shr_and_one w p = and_mask (w / 2 ^ p) 1 ∙ sym (bit-flag p w)

-- `mask | (1 << p)` sets flag p
pub or_set : (bs : List Bool) (p : ℕ) → p < length bs → bit_or (mask bs) (2 ^ p) ≡ mask (set bs p true)
unfolding bit
or_set bs p h =
    omega (arith, or_add_and (mask bs) (2 ^ p), and-bit (mask bs) p, ap (λ (b : Bool). bit b * 2 ^ p) (flag-mask bs p), mask-set bs p true h)

min-bits : (x y : ℕ) → x < 2 → y < 2 → min x y + min x (1 - y) ≡ x
min-bits zero zero h k = refl
min-bits zero (suc zero) h k = refl
min-bits zero (suc (suc y)) h k = absurd (omega arith)
min-bits (suc zero) zero h k = refl
min-bits (suc zero) (suc zero) h k = refl
min-bits (suc zero) (suc (suc y)) h k = absurd (omega arith)
min-bits (suc (suc x)) y h k = absurd (omega arith)

-- the digits under a, and those under its complement
pub and-complement : (k w a : ℕ) → w < 2 ^ k → a < 2 ^ k → bit_and w a + bit_and w ((2 ^ k - 1) - a) ≡ w
and-complement zero w a h l = let e : w ≡ 0 = lt-one h in rw e
and-complement (suc k) w a h l =
    let d = pow-twice k in
    let c = (2 ^ suc k - 1) - a in
    let e : c / 2 ≡ (2 ^ k - 1) - a / 2 = omega (arith, pow_pos k) in
    let f : c % 2 ≡ 1 - a % 2 = omega (arith, pow_pos k) in
    let q = and-complement k (w / 2) (a / 2) (omega arith) (omega arith) in
    let s : bit_and w c ≡ bit_and (w / 2) ((2 ^ k - 1) - a / 2) * 2 + min (w % 2) (1 - a % 2) =
    and_step w c ∙ ap₂ (λ (x y : ℕ). bit_and (w / 2) x * 2 + min (w % 2) y) e f in
    omega (arith, and_step w a, s, min-bits (w % 2) (a % 2) (omega arith) (omega arith))

-- `mask & !(1 << p)` clears flag p, in a word of k digits
pub and-clear : (k : ℕ) (bs : List Bool) (p : ℕ) → length bs ≤ k → p < length bs → bit_and (mask bs) ((2 ^ k - 1) - 2 ^ p) ≡ mask (set bs p false)
unfolding bit
and-clear k bs p l h =
    omega (
      arith,
      and-complement k (mask bs) (2 ^ p) (mask-lt-pow k bs l) (pow-lt (omega arith)),
      and-bit (mask bs) p,
      ap (λ (b : Bool). bit b * 2 ^ p) (flag-mask bs p),
      mask-set bs p false h,
    )
  where
    mask-lt-pow : (k : ℕ) (bs : List Bool) → length bs ≤ k → mask bs < 2 ^ k
    mask-lt-pow k bs l = omega (arith, mask_lt bs, pow_mono l)

-- ---- flags counted, and the first of them

-- how many flags are set
abbrev pub trues : List Bool → ℕ
trues bs = sum bit bs

-- the place of the first flag that is set; the number of flags where none is
unfoldable pub first_true : List Bool → ℕ
first_true [] = 0
first_true (b ∷ bs) = cond b 0 (suc (first_true bs))

pub first_true-lt : (bs : List Bool) → some bs ≡ true → first_true bs < length bs
unfolding any first_true
first_true-lt [] h = clash h refl
first_true-lt (true ∷ bs) h = omega arith
first_true-lt (false ∷ bs) h = omega (arith, first_true-lt bs h)

pub get_or-first_true : (bs : List Bool) → some bs ≡ true → get_or bs (first_true bs) false ≡ true
unfolding any first_true
get_or-first_true [] h = clash h refl
get_or-first_true (true ∷ bs) h = refl
get_or-first_true (false ∷ bs) h = get_or-first_true bs h

pub ones-mask : (bs : List Bool) → ones (mask bs) ≡ trues bs
unfolding mask ones
ones-mask [] = refl
ones-mask (b ∷ bs) = ones_step (mask (b ∷ bs)) ∙ ap₂ (λ (x y : ℕ). x + ones y) (mask-mod b bs) (mask-div b bs) ∙ ap (λ (x : ℕ). bit b + x) (ones-mask bs)

-- in a word of k digits
pub trailing-mask : (k : ℕ) (bs : List Bool) → length bs ≤ k → some bs ≡ true → count_trailing_zeros k (mask bs) ≡ first_true bs
unfolding any bit first_true count_trailing_zeros
trailing-mask k [] l h = clash h refl
trailing-mask zero (b ∷ bs) l h = absurd (omega arith)
trailing-mask (suc k) (b ∷ bs) l h =
    ap₂ (λ (x y : ℕ). under x (count_trailing_zeros k y)) (mask-mod b bs) (mask-div b bs) ∙ go b (λ q. trailing-mask k bs (omega arith) q) h
  where
    go : (b : Bool) → (some bs ≡ true → count_trailing_zeros k (mask bs) ≡ first_true bs) → (b || some bs) ≡ true
        → under (bit b) (count_trailing_zeros k (mask bs)) ≡ cond b 0 (suc (first_true bs))
    go true ih h = refl
    go false ih h = ap suc (ih h)

pub trailing-none : (k : ℕ) (bs : List Bool) → some bs ≡ false → count_trailing_zeros k (mask bs) ≡ k
trailing-none k bs h = ap (count_trailing_zeros k) (mask-none bs h) ∙ trailing_of_zero k
